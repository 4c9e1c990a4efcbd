-- A draft or a receipt, as contracts see it.
use Rattle.std.specs.Prelude.{ℕ}
use Rattle.urb_stable.specs.Entries.{Entry}

-- a node's record at its position
pub record Placed : Type 0 where
  pub node : ℕ
  pub pos : ℕ
  pub entry : Entry
