-- A store that holds nothing yet.
use Rattle.std.specs.Prelude.{None, [], false, ◌≡◌}
use Rattle.urb_stable.specs.StableStorage.{IsContents}
use Rattle.urb_stable.specs.declared.stable.Stable.{Ghosts}

module _ {S A : Type 0} (g : Ghosts S A) where
  -- No record is in doubt. If the store is honest, it has no record, and a stop leaves no record of
  -- it.
  pub record IsBlank (store : S) : Type 0 where
    pub certain : g.is_honest store → g.certain store ≡ []
    pub doubtful : g.is_doubtful store ≡ false
    pub doubt : g.doubt store ≡ None
    pub rest : g.is_honest store → g.leaves_only store (IsContents [] None)
