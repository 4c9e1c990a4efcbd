-- A doubt, as contracts see it.
use Rattle.std.specs.Prelude.{ℕ}
use Rattle.urb_stable.specs.declared.stable.StoreFault.{StoreFault}

-- a node whose store failed, and the fault
pub record Doubted : Type 0 where
  pub node : ℕ
  pub fault : StoreFault
