-- What a storage that was asked to hold records ahead answered, and what it holds after that.
use Rattle.std.specs.Prelude.{List, Result, ◌≡◌}
use Rattle.urb_stable.specs.Entries.{Entry}
use Rattle.urb_stable.specs.RecordsAhead.{HoldsAhead, IsHoldRefused, MayHoldAhead, StandsStill}
use Rattle.urb_stable.specs.RecordsAhead.{StaysTrusted}
use Rattle.urb_stable.specs.StableStorage.{CountsFailures, IsContents}
use Rattle.urb_stable.specs.declared.stable.Stable.{Ghosts}
use Rattle.urb_stable.specs.declared.stable.StoreFault.{StoreFault}

module _ {S A : Type 0} (g : Ghosts S A) where
  -- A stop leaves only what the storage may hold without the records ahead, or those too.
  abbrev pub Rests : S → Type 0
  Rests store = g.is_honest store
      → g.leaves_only store (IsContents (g.certain store) (g.doubt store))

  -- The storage `before` was asked to hold these records ahead, and gave this answer. It is refused
  -- with Place exactly if the storage couldn't hold them. What it has given out is as before.
  pub record KeepsTail (before : S) (records : List Entry) (answer : Result (Unit {0}) StoreFault)
      (after : S) : Type 0 where
    pub placed : IsHoldRefused (g.can_hold before records) answer
    pub still : StandsStill (g.place before) (g.is_doubtful before) (g.doubt before)
        (g.place after) (g.is_doubtful after) (g.doubt after)
    pub certain : g.is_honest after → g.certain after ≡ g.certain before
    pub trust : StaysTrusted (g.is_clean before) (g.is_honest before) (g.is_clean after)
        (g.is_honest after)
    pub counts : CountsFailures (g.failures before) (g.failures after) answer
    pub holds : MayHoldAhead before after (HoldsAhead records (g.ahead after) (g.certain before)
        (g.base after) (g.is_honest before) (Rests after)) answer
