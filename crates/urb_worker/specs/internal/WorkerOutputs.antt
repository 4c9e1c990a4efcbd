-- What contracts see of a worker that had no thread, once it has ended.
use Rattle.std.specs.Prelude.{ℕ}

-- its node, and the store with which it started
pub record OutputView (S : Type 0) : Type 0 where
  pub node : ℕ
  pub came : S
