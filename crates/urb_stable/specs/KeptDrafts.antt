-- What a store that was asked to keep a draft answered, and what it holds after that. The same of a
-- store that was asked to keep several records together.
use Rattle.std.specs.Prelude.{IsTrue, List, Result, [], length, ℕ, ◌+◌, ◌≡◌}
use Rattle.urb_stable.specs.Entries.{Entry}
use Rattle.urb_stable.specs.PlacedRecords.{Placed}
use Rattle.urb_stable.specs.RecordsAhead.{SparesAhead, TakesAhead}
use Rattle.urb_stable.specs.StableStorage.{CountsFailures, IsAppended, IsContents, IsContentsOr, IsPlaced}
use Rattle.urb_stable.specs.StableStorage.{KeepsTrust, LeavesDoubt, is_out_of_place}
use Rattle.urb_stable.specs.StoredTogether.{AreAppended, IsContentsOrAll, LeavesNoRecord, MovesPlace}
use Rattle.urb_stable.specs.StoredTogether.{StoresNothing, is_misplaced}
use Rattle.urb_stable.specs.declared.stable.Stable.{Ghosts}
use Rattle.urb_stable.specs.declared.stable.StoreFault.{StoreFault}

module _ {S A : Type 0} (g : Ghosts S A) where
  -- The store was asked to keep the draft, and gave this answer, as a store promises for each
  -- record. The fault is Place exactly if the store is out of place, and then nothing changes. The
  -- next position of an honest store is the one after its certain records. A stop during the call
  -- leaves what the store may have held, or its certain records followed by this one. A stop after
  -- the call leaves what the store may hold. If records are ahead, the first one is stored, or they
  -- are taken out for another one.
  pub record Keeps (before : S) (draft : Placed) (answer : Result (Unit {0}) StoreFault)
      (after : S) : Type 0 where
    pub answers : g.stores before draft.pos draft.entry answer
    pub placed : IsPlaced (is_out_of_place (g.is_doubtful before) (g.place before) draft.pos)
        (g.place before) answer
    pub same : IsTrue (is_out_of_place (g.is_doubtful before) (g.place before) draft.pos)
        → after ≡ before
    pub counted : g.is_honest before → g.place before ≡ length (g.certain before) + 1
    pub appended : g.is_honest after
        → IsAppended (g.certain before) (g.certain after) draft.entry answer
    pub doubted : LeavesDoubt (g.is_doubtful after) (g.doubt after) draft.entry answer
    pub stop : g.is_honest before → g.is_clean after
        → g.leaves_only after (IsContentsOr draft.entry (g.certain before) (g.doubt before))
    pub rest : g.is_honest after
        → g.leaves_only after (IsContents (g.certain after) (g.doubt after))
    pub counts : CountsFailures (g.failures before) (g.failures after) answer
    pub trust : KeepsTrust (g.is_clean before) (g.is_honest before) (g.is_clean after)
        (g.is_honest after) (g.is_shut after) answer
    pub ahead : TakesAhead (g.ahead before) (g.base before) (g.ahead after) (g.base after)
        (g.doubt after) draft.entry answer

  -- The store was asked to keep these records together, the first at this position, and gave this
  -- answer, as a store promises. The fault is Place exactly if they are out of place, and then
  -- nothing changes. An empty list in place is stored, and nothing changes. The next position of an
  -- honest store is the one after its certain records. A stop during the call leaves what the store
  -- may have held, or its certain records followed by all of these. A stop after the call leaves
  -- what the store may hold. If records are ahead, no list of records is stored in their place.
  pub record KeepsAll (before : S) (pos : ℕ) (entries : List Entry)
      (answer : Result (Unit {0}) StoreFault) (after : S) : Type 0 where
    pub placed : IsPlaced
        (is_misplaced (g.is_doubtful before) (g.place before) pos entries)
        (g.place before) answer
    pub same : IsTrue
        (is_misplaced (g.is_doubtful before) (g.place before) pos entries)
        → after ≡ before
    pub nothing : entries ≡ [] → StoresNothing
        (is_misplaced (g.is_doubtful before) (g.place before) pos []) before answer after
    pub counted : g.is_honest before → g.place before ≡ length (g.certain before) + 1
    pub appended : g.is_honest after
        → AreAppended (g.certain before) (g.certain after) entries answer
    pub doubted : LeavesNoRecord (g.is_doubtful after) (g.doubt after) answer
    pub moved : MovesPlace (g.place before) (g.place after) (length entries) answer
    pub stop : g.is_honest before → g.is_clean after
        → g.leaves_only after (IsContentsOrAll entries (g.certain before) (g.doubt before))
    pub rest : g.is_honest after
        → g.leaves_only after (IsContents (g.certain after) (g.doubt after))
    pub counts : CountsFailures (g.failures before) (g.failures after) answer
    pub trust : KeepsTrust (g.is_clean before) (g.is_honest before) (g.is_clean after)
        (g.is_honest after) (g.is_shut after) answer
    pub ahead : SparesAhead (g.ahead before) (g.base before) (g.ahead after) (g.base after)
        entries answer
