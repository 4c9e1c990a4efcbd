-- How the calls of an open journal change its database and its files.
use Rattle.std.specs.Prelude.{◌≡◌, ℕ, ◌+◌, false, List, [], ◌∷◌, ◌++◌, length, IsTrue}
use Rattle.std.specs.Prelude.{◌⊎◌, Result, IfErr}
use Rattle.sqlite.specs.State.{State, HasCleanDisk, IsUnchanged, IsRolledBack, KeepsCommit}
use Rattle.urb_stable.specs.StableStorage.{is_bad_row}
use Rattle.urb_stable.specs.declared.stable.StoreFault.{StoreFault}
use Rattle.sqlite.specs.Effect.{Database}
use Rattle.urb_stable.specs.Entries.{Entry}
use Rattle.urb_sqlite.specs.JournalTables.{HasBoth}
use Rattle.urb_sqlite.specs.RecordRows.{StandsFor}
use Rattle.urb_sqlite.specs.RowReadings.{records_of}
use Rattle.urb_sqlite.specs.OpenJournal.{AddsTable, CommitsTable, IsHonestJournal, IsSafeAtRest}

-- Each row of the journal is a record, and the next position follows the last row.
pub record IsCounted (d : Database) (next : ℕ) : Type 0 where
  pub stands : StandsFor d (records_of d)
  pub place : next ≡ length (records_of d) + 1

-- No transaction is open, and all rows are committed. If both tables are there, their rows are
-- counted.
pub record IsKept (s : State) (next : ℕ) : Type 0 where
  pub autocommit : s.in_transaction ≡ false
  pub settled : s.now ≡ s.committed
  pub counted : HasBoth s.now.schema → IsCounted s.now next

-- While the disk is clean and the connection is open, the next position agrees with the rows.
abbrev pub IsInStep : State → ℕ → Type 0
IsInStep s next = HasCleanDisk s → IsTrue s.is_open → IsKept s next

-- ---- what a call does to a journal

-- The connection was open and still is, and the table with this name was added.
pub record IsMade (old new : State) (name : List ℕ) : Type 0 where
  pub was_open : IsTrue old.is_open
  pub is_open : IsTrue new.is_open
  pub adds : AddsTable old.now new.now name

-- nothing changed, or the table with this name was added
abbrev pub MakesAtMost : State → State → List ℕ → Type 0
MakesAtMost old new name = IsUnchanged old new ⊎ IsMade old new name

-- nothing was committed, or the table with this name was committed
abbrev pub CommitsAtMost : State → State → List ℕ → Type 0
CommitsAtMost old new name = KeepsCommit old new ⊎ CommitsTable old new name

-- the record was added, and the connection stays open
pub record IsAppended (old new : State) (place : ℕ) (r : Entry) : Type 0 where
  pub kept : IsInStep new (place + 1)
  pub honest : IsHonestJournal new → IsHonestJournal old
  pub alive : IsHonestJournal old → HasCleanDisk new → IsHonestJournal new
  pub records : IsHonestJournal new → records_of new.now ≡ records_of old.now ++ r ∷ []

-- no row changed
pub record IsLeft (old new : State) (place : ℕ) : Type 0 where
  pub kept : IsInStep new place
  pub honest : IsHonestJournal new → IsHonestJournal old
  pub alive : IsHonestJournal old → HasCleanDisk new → IsTrue new.is_open → IsHonestJournal new
  pub records : IsHonestJournal new → records_of new.now ≡ records_of old.now

-- nothing changed, or what was not committed is gone
abbrev pub RollsBackAtMost : State → State → Type 0
RollsBackAtMost old new = IsUnchanged old new ⊎ IsRolledBack old new

-- If the next position agreed with the rows, then at rest a stop leaves what the journal shows.
abbrev pub StaysSafe : State → State → Type 0
StaysSafe old new = (next : ℕ) → IsInStep old next → IsSafeAtRest new

-- the answer does not say that a row is no record
abbrev pub FindsNoBadRow : {A : Type 0} → Result A StoreFault → Type 0
FindsNoBadRow result = IfErr result (λ e. is_bad_row e ≡ false)

-- If both tables are there and each of their rows is a record, the answer does not say otherwise.
abbrev pub TakesRecords : {A : Type 0} → State → Result A StoreFault → Type 0
TakesRecords s result =
    HasBoth s.now.schema → (next : ℕ) → IsCounted s.now next → FindsNoBadRow result
