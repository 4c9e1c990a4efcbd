-- Words of the worked examples: columns, tables, databases and states of a connection.
use Rattle.std.specs.Prelude.{List, None, [], codes, false, pos, slice_set, true, ℕ}
use Rattle.std.specs.Prelude.{◌∷◌, ◌≡◌}
use Rattle.sqlite_disk.specs.declared.start.Start.{Ghosts}
use Rattle.sqlite_value.specs.declared.value.Value.TheVariants.{Blob as bytes, Int, Null}
use Rattle.sqlite_schema.specs.declared.schema.Kind.TheVariants.{Blob}
use Rattle.sqlite_schema.specs.declared.schema.Column.{Column}
use Rattle.sqlite_schema.specs.declared.schema.Schema.{Schema}
use Rattle.sqlite_schema.specs.declared.schema.Table.{Table}
use Rattle.sqlite_trees.specs.Objects.{catalog_tree}
use Rattle.sqlite_trees.specs.Tree.{Trees, no_trees, with_tree}
use Rattle.sqlite_value.specs.Order.{Row}
use Rattle.sqlite_wal.specs.Recovery.{Image}
use Rattle.sqlite.specs.Effect.{Database}
use Rattle.sqlite.specs.State.{State}
use Rattle.urb_stable.specs.Entries.{Entry}
use Rattle.urb_names.specs.Names.{name}
use Rattle.urb_stable.specs.declared.record.Record.TheVariants.{Pend}
use Prim.Native.String.{String}
use Rattle.urb_world.specs.internal.Scripts.{message}
use Rattle.urb_sqlite.specs.FoundJournals.{held_by}
use Rattle.urb_sqlite.specs.JournalTables.{integer, journal_name, record_table, second_name}
use Rattle.urb_sqlite.specs.declared.rows.Columns.{Columns}

-- the column of the kinds of records
abbrev pub kind_column : Column
kind_column = integer (codes "kind")

-- the column of places, which is the rowid
abbrev pub place_column : Column
place_column = record kind_column { name = codes "pos"; not_null = false }

-- the column of payloads
abbrev pub payload_column : Column
payload_column = record kind_column { name = codes "payload"; kind = Blob }

-- the table of records that came first, with its rows in tree 2
abbrev pub first_table : Table
first_table = record_table journal_name 2

-- its columns, with another one at a place
abbrev pub columns_with : ℕ → Column → List Column
columns_with at column = slice_set first_table.columns at column

-- the table of records that takes new ones, with its rows in tree 3
abbrev pub second_table : Table
second_table = record_table second_name 3

-- a table of records by another name, with its rows in this tree
abbrev pub other_table : ℕ → Table
other_table tree = record_table (codes "other") tree

-- a table with a name of a journal that isn't a table of records: its keys are counted
abbrev pub counted_table : List ℕ → Table
counted_table name = record (record_table name 4) { is_counted = true }

-- a table by the name of the first one, whose only column is the place
abbrev pub short_table : Table
short_table = record first_table { columns = place_column ∷ [] }

-- a schema of these tables alone
abbrev pub schema_of : List Table → Schema
schema_of tables = record { tables = tables; indexes = []; views = [] }

-- a database of these tables without rows
abbrev pub without_rows : List Table → Database
without_rows tables = record { schema = schema_of tables; trees = no_trees }

-- a database of these tables, with these rows in one tree
abbrev pub with_rows : List Table → ℕ → List Row → Database
with_rows tables tree rows = record (without_rows tables) { trees = with_tree no_trees tree rows }

-- trees that are no database: the row in the list of tables has no columns
abbrev pub no_database : Trees
no_database = with_tree no_trees catalog_tree ([] ∷ [])

-- an open connection to this database, of which a stop leaves these trees
abbrev pub connected : Database → Trees → State
connected d left = record {
  now = d;
  committed = d;
  in_transaction = false;
  marks = [];
  is_open = true;
  is_clean = true;
  faults = 0;
  blamed = None;
  changes = 0;
  last_rowid = pos 0;
  step_limit = None;
  may_leave = λ db. db ≡ left;
  IsShielded = Unit {0};
}

-- the same, of which a stop leaves nothing at all
abbrev pub leaving_nothing : Database → State
leaving_nothing d = record (connected d no_trees) { may_leave = λ db. ⊥ }

-- a connection that a fault has shut
abbrev pub shut : State → State
shut s = record s { is_open = false }

-- files without a byte
abbrev pub no_files : Image
no_files = record { log = []; db = [] }

-- files of which the database has this one byte
abbrev pub one_byte : ℕ → Image
one_byte n = record { log = []; db = n ∷ [] }

-- what the files of a node held, whose database has this one byte
abbrev pub started_with : ℕ → Ghosts (Unit {0})
started_with n = record { log = []; db = n ∷ []; is_mixing = true }

-- what each node's files held: the database has one byte, the node's number
abbrev pub held : ℕ → Image
held = held_by (started_with 1) (started_with 2) (started_with 3) (started_with 4)
    (started_with 5) (started_with 6) (started_with 7)

-- the record of a message of node 1 with this payload, which is pending
abbrev pub holding : String → Entry
holding letters = Pend (name 1 1) (message 7 1 letters)

-- the numbers in the row of node 1's first record
abbrev pub first_columns : Columns
first_columns = record { pos = 1; kind = 1; sender = 1; seq = 1; client = 7; number = 1 }

-- the row of node 1's record with this number in its tree, which keeps the place as the rowid
abbrev pub stored_row : ℕ → Row
stored_row number =
    Int (pos number) ∷ Null ∷ Int (pos 1) ∷ Int (pos 1) ∷ Int (pos number) ∷ Int (pos 7)
    ∷ Int (pos number) ∷ bytes [] ∷ []
