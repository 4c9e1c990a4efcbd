-- How one transaction adds several records to a journal.
use Rattle.std.specs.Prelude.{◌≡◌, ℕ, ◌+◌, false, true, List, ◌++◌, length, IsTrue}
use Rattle.sqlite.specs.State.{State, HasCleanDisk, IsLive}
use Rattle.sqlite.specs.Tree.{Trees}
use Rattle.sqlite.specs.Effect.{Database, IsDatabase}
use Rattle.urb_stable.specs.Entries.{Entry}
use Rattle.urb_sqlite.specs.JournalTables.{HasBoth}
use Rattle.urb_sqlite.specs.RowReadings.{records_of}
use Rattle.urb_sqlite.specs.OpenJournal.{IsHonestJournal}
use Rattle.urb_sqlite.specs.internal.JournalChanges.{IsCounted, IsInStep}

-- The database has these records more, the first one at this place.
pub record HasMore (old new : Database) (place : ℕ) (rs : List Entry) : Type 0 where
  pub schema : new.schema ≡ old.schema
  pub counted : HasBoth old.schema → IsCounted old place
      → (records_of new ≡ records_of old ++ rs) × IsCounted new (place + length rs)

-- A transaction is open, which has added these records.
pub record IsFilling (old now : State) (place : ℕ) (rs : List Entry) : Type 0 where
  pub more : HasMore old.now now.now place rs
  pub was_open : IsTrue now.is_open → IsTrue old.is_open
  pub is_open : IsTrue old.is_open → IsTrue now.is_open
  pub committed : now.committed ≡ old.committed
  pub mode : now.in_transaction ≡ true
  pub sound : IsLive old → IsTrue old.is_open → IsDatabase now.now

-- These records were committed together.
pub record IsFilled (old new : State) (place : ℕ) (rs : List Entry) : Type 0 where
  pub more : HasMore old.now new.now place rs
  pub settled : new.now ≡ new.committed
  pub was_open : IsTrue old.is_open
  pub is_open : IsTrue new.is_open
  pub mode : new.in_transaction ≡ false

-- No transaction is open. The database is as the last commit left it.
pub record IsUndone (old new : State) : Type 0 where
  pub was_open : IsTrue new.is_open → IsTrue old.is_open
  pub now_is : IsTrue new.is_open → new.now ≡ old.committed
  pub committed_is : IsTrue new.is_open → new.committed ≡ old.committed
  pub autocommit : new.in_transaction ≡ false

-- these trees are the database with all of these records more
abbrev pub FillsTo : State → ℕ → List Entry → Trees → Type 0
FillsTo s place rs db =
    (d : Database) × HasMore s.now d place rs
    × (IsLive s → IsTrue s.is_open → IsDatabase d) × (db ≡ d.trees)

-- The records were added, and the connection stays open.
pub record AreAdded (old new : State) (place : ℕ) (rs : List Entry) : Type 0 where
  pub kept : IsInStep new (place + length rs)
  pub honest : IsHonestJournal new → IsHonestJournal old
  pub alive : IsHonestJournal old → HasCleanDisk new → IsHonestJournal new
  pub records : IsHonestJournal new → records_of new.now ≡ records_of old.now ++ rs

-- ---- how one transaction takes out the last records of a journal

-- The database has lost its last `count` records. Its next position is now `first`.
pub record HasFewer (old new : Database) (first count : ℕ) : Type 0 where
  pub schema : new.schema ≡ old.schema
  pub counted : HasBoth old.schema → IsCounted old (first + count)
      → (gone : List Entry) × (records_of old ≡ records_of new ++ gone)
      × (length gone ≡ count) × IsCounted new first

-- A transaction was begun, and nothing else changed.
pub record IsBegun (old now : State) : Type 0 where
  pub now_is : now.now ≡ old.now
  pub committed_is : now.committed ≡ old.committed
  pub was_open : IsTrue now.is_open → IsTrue old.is_open

-- A transaction is open, which has taken out the last `count` records.
pub record IsEmptying (old now : State) (first count : ℕ) : Type 0 where
  pub fewer : HasFewer old.now now.now first count
  pub was_open : IsTrue old.is_open
  pub committed : now.committed ≡ old.committed
  pub mode : now.in_transaction ≡ true
  pub sound : IsDatabase now.now

-- The last `count` records were taken out, and this was committed.
pub record IsEmptied (old new : State) (first count : ℕ) : Type 0 where
  pub fewer : HasFewer old.now new.now first count
  pub settled : new.now ≡ new.committed
  pub was_open : IsTrue old.is_open
  pub is_open : IsTrue new.is_open
  pub mode : new.in_transaction ≡ false

-- these trees are the database without its last `count` records
abbrev pub EmptiesTo : State → ℕ → ℕ → Trees → Type 0
EmptiesTo s first count db =
    (d : Database) × HasFewer s.now d first count × IsDatabase d × (db ≡ d.trees)

-- The last `count` records were taken out, and the connection stays open.
pub record AreTakenOut (old new : State) (first count : ℕ) : Type 0 where
  pub kept : IsInStep new first
  pub honest : IsHonestJournal new → IsHonestJournal old
  pub alive : IsHonestJournal old → HasCleanDisk new → IsHonestJournal new
  pub records : IsHonestJournal new → (gone : List Entry)
      × (records_of old.now ≡ records_of new.now ++ gone) × (length gone ≡ count)
