-- What a store that was asked for its records answered, and what it holds after that.
use Rattle.std.specs.Prelude.{List, Result, ◌⊎◌}
use Rattle.urb_stable.specs.Entries.{Entry}
use Rattle.urb_stable.specs.RecordsAhead.{KeepsOrDrops}
use Rattle.urb_stable.specs.StableStorage.{CountsFailures, IsAllowedFault, IsContents, IsRetrieved}
use Rattle.urb_stable.specs.StableStorage.{KeepsTrust, SettlesDoubt, StaysShut}
use Rattle.urb_stable.specs.StoredTogether.{LeavesNoMore}
use Rattle.urb_stable.specs.declared.stable.Stable.{Ghosts}
use Rattle.urb_stable.specs.declared.stable.StoreFault.{StoreFault}

module _ {S A : Type 0} (g : Ghosts S A) where
  -- A store answers a request for its records. A stop during the call leaves what the store may have
  -- held, and a stop after it what the store may hold. The records ahead stay, or the store drops
  -- all of them.
  pub record Gives (before : S) (answer : Result (List Entry) StoreFault) (after : S) : Type 0 where
    pub answers : g.answers before answer
    pub retrieved : g.is_honest after
        → IsRetrieved (g.certain before) (g.doubt before) (g.certain after) answer
    pub settled : SettlesDoubt (g.is_doubtful before) (g.doubt before) (g.place before)
        (g.is_doubtful after) (g.doubt after) (g.place after) answer
    pub allowed : IsAllowedFault (g.is_honest before) (g.is_shut before) (g.is_clean after)
        (g.is_honest after) answer
    pub stop : g.is_honest before → g.is_clean after
        → g.leaves_only after (IsContents (g.certain before) (g.doubt before))
    pub rest : g.is_honest after
        → g.leaves_only after (IsContents (g.certain after) (g.doubt after))
    pub counts : CountsFailures (g.failures before) (g.failures after) answer
    pub trust : KeepsTrust (g.is_clean before) (g.is_honest before) (g.is_clean after)
        (g.is_honest after) (g.is_shut after) answer
    pub refuses : StaysShut (g.is_shut before) (g.is_clean after) (g.is_shut after) answer
    pub lasts : g.is_clean after → g.is_honest before ⊎ g.is_shut before
        → LeavesNoMore (g.leaves_only before) (g.leaves_only after)
    pub ahead : KeepsOrDrops (g.ahead before) (g.base before) (g.ahead after) (g.base after)
