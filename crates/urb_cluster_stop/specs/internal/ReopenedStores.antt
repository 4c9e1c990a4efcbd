-- The stores of a cluster after a stop of the machine.
use Rattle.std.specs.Prelude.{List, [], ◌∷◌}
use Rattle.sqlite.specs.State.{State}
use Rattle.urb_sqlite.specs.ReopenedJournals.{IsReopened}

-- Each journal was opened again after a stop of it, one after the other.
abbrev pub AreReopened : {S : Type 0} → List S → List S → (S → State) → Type 0
AreReopened [] [] at = Unit {0}
AreReopened (old ∷ before) (new ∷ after) at =
    IsReopened (at old) (at new) × AreReopened before after at
AreReopened before after at = ⊥
