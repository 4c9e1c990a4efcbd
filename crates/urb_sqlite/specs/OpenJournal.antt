-- What contracts see of an open journal.
use Rattle.std.specs.Prelude.{◌≡◌, ℕ, ◌+◌, Bool, true, false, List, [], ◌++◌, IsTrue, refl, ◌⊎◌}
use Rattle.std.specs.Coded.{Coded, code_by, coded×, coded_ℕ, coded_bool}
use Rattle.sqlite.specs.Held.{Held, held_code}
use Rattle.std.specs.List.{AllByRecursion}
use Rattle.sqlite.specs.State.{State, HasCleanDisk, KeepsCommit, CommitsBy, Survives}
use Rattle.sqlite.specs.Table.{Table}
use Rattle.urb_stable.specs.StableStorage.{is_place, is_bad_row}
use Rattle.urb_stable.specs.declared.stable.StoreFault.{StoreFault}
use Rattle.urb_stable.specs.declared.stable.StoreFault.TheVariants.{BadRow}
use Rattle.sqlite.specs.Tree.{Trees}
use Rattle.sqlite_trees.specs.Objects.{catalog_tree}
use Rattle.sqlite_wal.specs.Recovery.{Image}
use Rattle.sqlite_pool.specs.Opening.{IsBlankFile}
use Rattle.sqlite.specs.Files.{IsNothing}
use Rattle.sqlite.specs.Effect.{Database}
use Rattle.sqlite_catalog.specs.Listing.{IsSound}
use Rattle.urb_stable.specs.Entries.{Entry}
use Rattle.sqlite.specs.Schema.{Schema}
use Rattle.urb_sqlite.specs.JournalTables.{create_text, journal_name, second_name, tree_of, HasTable}
use Rattle.urb_sqlite.specs.JournalTables.{HasBoth, HasJournal, IsAdoptable, Lacks}
use Rattle.urb_sqlite.specs.RecordRows.{StandsFor, IsFirstBadOf}
use Rattle.urb_sqlite.specs.RowReadings.{records_of}
use Rattle.urb_sqlite.specs.TableShapes.{has_table}

-- The connection, the next position, whether a store has failed since the last retrieve, and how
-- often the device has failed.
pub record OpenJournal (S : Type 0) : Type 0 where
  pub conn : Held S
  pub next : ℕ
  pub doubtful : Bool
  pub failures : ℕ

-- an open journal, encoded as the tuple of its parts, so that proofs can tell journals apart
abbrev pub open_code : {S : Type 0} → Coded S → Coded (OpenJournal S)
open_code {S} store =
    code_by (Held S × (ℕ × (Bool × ℕ)))
    (coded× (held_code store) (coded× coded_ℕ (coded× coded_bool coded_ℕ)))
    (λ s. (s.conn, (s.next, (s.doubtful, s.failures))))
    (λ p. record { conn = p.0; next = p.1.0; doubtful = p.1.1.0; failures = p.1.1.1 })
    (λ _. refl)

-- So far the disk has returned what was written, no fault has shut the database, and both of its
-- tables are there.
pub record IsHonestJournal (s : State) : Type 0 where
  pub clean : HasCleanDisk s
  pub is_open : IsTrue s.is_open
  pub schema : HasBoth s.now.schema

-- These trees are a database that has the journal.
pub record IsJournal (db : Trees) : Type 0 where
  pub schema : Schema
  pub has : HasJournal schema
  pub sound : IsSound schema db

-- the database that these trees are
abbrev pub database_of : {db : Trees} → IsJournal db → Database
database_of {db} journal = record { schema = journal.schema; trees = db }

-- These trees are a database in which a journal opens. It may have other tables alone, or one table
-- of a journal.
pub record IsBase (db : Trees) : Type 0 where
  pub schema : Schema
  pub has : IsAdoptable schema
  pub sound : IsSound schema db

-- the database that these trees are
abbrev pub base_of : {db : Trees} → IsBase db → Database
base_of {db} base = record { schema = base.schema; trees = db }

-- These trees are a database that lists no table, index or view.
abbrev pub IsBare : Trees → Type 0
IsBare db = db catalog_tree ≡ []

-- The files hold no database. The database file is empty, whatever the log holds, or has only a
-- part of its first page. This program makes that page with 1,024 bytes; an older one made it with
-- 4,096.
abbrev pub IsUnmade : Image → Type 0
IsUnmade image = IsBlankFile 1024 image ⊎ IsNothing image

-- a fault has shut the database
abbrev pub IsShutJournal : State → Type 0
IsShutJournal s = IsTrue s.is_open → ⊥

-- Whatever a stop leaves is a journal of records, and P holds for the records.
abbrev pub LeavesOnly : State → (List Entry → Type 0) → Type 0
LeavesOnly s P =
    (db : Trees) → s.may_leave db
    → (journal : IsJournal db) × (records : List Entry) × StandsFor (database_of journal) records
    × P records

-- ---- what a call does to a journal

-- Tables were added to the database after its other tables, which keep their rows.
pub record IsLonger (old new : Database) : Type 0 where
  pub more : List Table
  pub tables : new.schema.tables ≡ old.schema.tables ++ more
  pub rows : AllByRecursion (λ (t : Table). new.trees t.tree ≡ old.trees t.tree) old.schema.tables

-- The empty table with this name was added to the database after its other tables, which keep their
-- rows.
pub record AddsTable (old new : Database) (name : List ℕ) : Type 0 where
  pub has : HasTable new.schema name
  pub empty : new.trees (tree_of new.schema name) ≡ []
  pub longer : IsLonger old new
  pub keeps : (other : List ℕ) → HasTable old.schema other
      → HasTable new.schema other × (new.trees (tree_of new.schema other) ≡ old.trees
      (tree_of old.schema other))

-- the committed database has the table with this name after what was there before
abbrev pub CommitsTable : State → State → List ℕ → Type 0
CommitsTable old new name =
    IsTrue new.is_open → IsTrue old.is_open × AddsTable old.now new.committed name

-- Between two calls, a stop leaves the records that the journal shows.
abbrev pub IsSafeAtRest : State → Type 0
IsSafeAtRest s = IsHonestJournal s → LeavesOnly s (λ records. records ≡ records_of s.now)

-- ---- what opening leaves

-- these trees are the first database with the empty table of this name after its other tables
pub record AddsOne (old : Database) (name : List ℕ) (db : Trees) : Type 0 where
  pub after : Database
  pub adds : AddsTable old after name
  pub sound : IsSound after.schema after.trees
  pub is : db ≡ after.trees

-- What a stop inside an opening may leave, other than what was there. It is the database with the
-- first table, or with the second table added after it.
abbrev pub CommitsEither : State → Trees → Type 0
CommitsEither s db =
    CommitsBy create_text [] s db
    ⊎ ((mid : Database) × ((mid ≡ s.now) ⊎ AddsTable s.now mid journal_name)
    × AddsOne mid second_name db)

-- A refused journal keeps its rows. Nothing was committed, or only the second table, which is
-- empty. If a row of the first table is bad, nothing is committed.
pub record KeepsRows (old new : State) (e : StoreFault) : Type 0 where
  pub commit : KeepsCommit old new ⊎ (CommitsTable old new second_name × (is_bad_row e ≡ false))

-- Any database that is refused keeps its rows. Either nothing was committed, or tables were added
-- after the existing ones and committed.
abbrev pub SparesRows : State → State → Type 0
SparesRows old new =
    KeepsCommit old new ⊎ (IsTrue new.is_open → IsTrue old.is_open × IsLonger old.now new.committed)

-- A database was opened as a journal: `old` is the database before, and `new` after. Its rows are
-- the records. A stop inside the opening leaves what was there, or this with new tables.
pub record IsTakenOver (old new : State) : Type 0 where
  -- Both names belong to the journal's tables, and not to other tables or to views.
  pub first : HasCleanDisk new → has_table journal_name new.now.schema ≡ true
  pub second : HasCleanDisk new → has_table second_name new.now.schema ≡ true
  -- If neither table was there, the journal has no record, whatever other tables there are.
  pub fresh : HasCleanDisk new → Lacks old.now.schema journal_name
      → Lacks old.now.schema second_name → IsHonestJournal new × (records_of new.now ≡ [])
  -- If each table was one of records or absent, its rows are the records. Either table may exist
  -- without the other.
  pub found : HasCleanDisk new → IsAdoptable old.now.schema
      → IsHonestJournal new × StandsFor old.now (records_of new.now)
  -- A stop inside the opening leaves what was there before, or what a CREATE commits.
  pub stop : Survives old new (CommitsEither old)

-- A database was refused as a journal, with this fault: `old` is the database before, and `new`
-- after. It keeps its rows, and may have new tables. If the fault names a bad row, that is the first
-- one.
pub record IsGivenBack (old new : State) (e : StoreFault) : Type 0 where
  -- `BadRow` names the first row over both tables that is no record. No refusal is `Place`.
  pub bad : HasCleanDisk new → IsAdoptable old.now.schema → (place : ℕ) → e ≡ BadRow place
      → IsFirstBadOf old.now place
  pub rowless : HasCleanDisk new → Lacks old.now.schema journal_name
      → Lacks old.now.schema second_name → is_bad_row e ≡ false
  pub placed : is_place e ≡ false
  -- A journal that is refused keeps its rows.
  pub kept : HasCleanDisk new → HasJournal old.now.schema → KeepsRows old new e
  -- So does any database that is refused. At most it gets new tables, after its others.
  pub spared : HasCleanDisk new → SparesRows old new
  -- A stop inside the opening leaves what was there before, or what a CREATE commits.
  pub stop : Survives old new (CommitsEither old)
