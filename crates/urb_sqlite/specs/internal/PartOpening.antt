-- What the opening of one table of a journal finds, and what its refusal leaves.
use Rattle.std.specs.Prelude.{◌≡◌, ℕ, ◌+◌, true, false, List, length, IsTrue, Ok, Result, IfErr}
use Rattle.std.specs.Prelude.{OnOk}
use Rattle.sqlite.specs.Effect.{Database}
use Rattle.sqlite.specs.Order.{Row}
use Rattle.sqlite.specs.State.{State, HasCleanDisk, IsLive, IsUnchanged, KeepsCommit, Survives}
use Rattle.urb_stable.specs.Entries.{Entry}
use Rattle.urb_stable.specs.StableStorage.{is_place, is_bad_row}
use Rattle.urb_stable.specs.declared.stable.StoreFault.{StoreFault}
use Rattle.urb_stable.specs.declared.stable.StoreFault.TheVariants.{BadRow}
use Rattle.urb_sqlite.specs.declared.sql.Part.{Part}
use Rattle.urb_sqlite.specs.JournalTables.{limit_of, tree_of, Lacks, HasTable}
use Rattle.urb_sqlite.specs.internal.JournalStatements.{name_of}
use Rattle.urb_sqlite.specs.internal.JournalChanges.{IsMade, MakesAtMost, CommitsAtMost}
use Rattle.urb_sqlite.specs.internal.JournalChanges.{RollsBackAtMost, FindsNoBadRow}
use Rattle.urb_sqlite.specs.RowReadings.{read_from}
use Rattle.urb_sqlite.specs.RecordRows.{table_rows, IsInOrder, IsFirstBad}
use Rattle.urb_sqlite.specs.TableShapes.{has_table}

-- The rows of this table are records. The first one is at the place `first`, and the next free
-- place follows the last.
pub record IsRead (d : Database) (part : Part) (first next : ℕ) : Type 0 where
  pub records : List Entry
  pub read : read_from (limit_of part) first (table_rows d (name_of part)) ≡ Ok records
  pub place : next ≡ first + length records

-- The rows of this table were read once, from the place `first` on. Reading them commits nothing. A
-- bad row is the first one of the table. If all rows are records, none is called bad.
pub record ReadsPart {A : Type 0} (old new : State) (part : Part) (first : ℕ)
    (result : Result A StoreFault) : Type 0 where
  pub same : HasCleanDisk new → OnOk result (IsUnchanged old new)
  pub left : HasCleanDisk new → RollsBackAtMost old new
  pub sound : HasCleanDisk new → HasTable old.now.schema (name_of part) → (records : List Entry)
      → read_from (limit_of part) first (table_rows old.now (name_of part)) ≡ Ok records
      → FindsNoBadRow result
  pub bad : HasCleanDisk new → HasTable old.now.schema (name_of part)
      → IfErr result (λ e. (place : ℕ) → e ≡ BadRow place
      → (rows : List Row) × IsInOrder (tree_of old.now.schema (name_of part)) old.now.trees rows
      × IsFirstBad (limit_of part) first rows place)
  pub placed : IfErr result (λ e. is_place e ≡ false)
  pub stop : Survives old new (λ _. ⊥)
  pub live : IsLive new

-- The table was there or was added, and no transaction is open. If the disk is clean, nothing else
-- changed.
pub record IsPrepared (old new : State) (part : Part) : Type 0 where
  pub table : has_table (name_of part) new.now.schema ≡ true
  pub autocommit : new.in_transaction ≡ false
  pub settled : IsTrue new.is_open → new.now ≡ new.committed
  pub most : HasCleanDisk new → MakesAtMost old new (name_of part)
  pub made : HasCleanDisk new → Lacks old.now.schema (name_of part)
      → IsMade old new (name_of part)
  pub found : HasCleanDisk new → HasTable old.now.schema (name_of part) → IsUnchanged old new

-- The table was there or was added, no transaction is open, and its rows were read once.
pub record IsPartOpened (old new : State) (part : Part) (first next : ℕ) : Type 0 where
  pub table : has_table (name_of part) new.now.schema ≡ true
  pub most : MakesAtMost old new (name_of part)
  pub made : Lacks old.now.schema (name_of part) → IsMade old new (name_of part)
  pub found : HasTable old.now.schema (name_of part) → IsUnchanged old new
  pub read : HasTable new.now.schema (name_of part) → IsRead new.now part first next
  pub autocommit : new.in_transaction ≡ false
  pub settled : IsTrue new.is_open → new.now ≡ new.committed

-- Nothing or the empty table was committed. If the table was there, nothing was committed. A bad
-- row is the first one of a table that was there.
pub record IsPartRefused (old new : State) (part : Part) (first : ℕ) (e : StoreFault) : Type 0 where
  pub commit : CommitsAtMost old new (name_of part)
  pub found : HasTable old.now.schema (name_of part) → KeepsCommit old new
  pub bad : (place : ℕ) → e ≡ BadRow place → HasTable old.now.schema (name_of part)
      → (rows : List Row) × IsInOrder (tree_of old.now.schema (name_of part)) old.now.trees rows
      × IsFirstBad (limit_of part) first rows place
  pub rowless : Lacks old.now.schema (name_of part) → is_bad_row e ≡ false
