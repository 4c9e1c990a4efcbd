-- What the next opening of a journal finds after a stop.
use Rattle.std.specs.Prelude.{◌≡◌, ◌⊎◌, List, [], ◌∷◌, ◌++◌, Option, Result, Ok, Err}
use Rattle.sqlite.specs.State.{State, HasCleanDisk}
use Rattle.urb_stable.specs.Entries.{Entry}
use Rattle.urb_stable.specs.StableStorage.{IsContents}
use Rattle.urb_sqlite.specs.OpenJournal.{IsHonestJournal, LeavesOnly}
use Rattle.urb_sqlite.specs.RowReadings.{records_of}

-- The records before, or these and the one that was stored. If its store had succeeded, these and
-- this one.
abbrev pub IsFoundAfter : {A E : Type 0} → Result A E → List Entry → Entry → List Entry → Type 0
IsFoundAfter (Ok _) before r found = found ≡ before ++ r ∷ []
IsFoundAfter (Err e) before r found = (found ≡ before) ⊎ (found ≡ before ++ r ∷ [])

-- If P holds of whatever records a stop leaves of the old journal, then the new journal is honest,
-- and P holds of its records.
abbrev pub FindsWhatIsLeft : State → State → (List Entry → Type 0) → Type 0
FindsWhatIsLeft old new P = LeavesOnly old P → IsHonestJournal new × P (records_of new.now)

-- The new journal was opened after a stop of the old one. If its disk is clean, so was the old
-- journal's. Then the new journal is honest and holds what the stop left, whatever that is: certain
-- records, or these and one more.
pub record IsReopened (old new : State) : Type 0 where
  pub clean : HasCleanDisk new → HasCleanDisk old
  pub kept : HasCleanDisk new → (records : List Entry)
      → FindsWhatIsLeft old new (λ left. left ≡ records)
  pub found : HasCleanDisk new → (records : List Entry) (r : Entry)
      → FindsWhatIsLeft old new (λ left. (left ≡ records) ⊎ (left ≡ records ++ r ∷ []))
  pub left : HasCleanDisk new → (certain : List Entry) (doubtful : Option Entry)
      → FindsWhatIsLeft old new (IsContents certain doubtful)
