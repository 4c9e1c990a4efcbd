-- The two tables of a journal: their texts, their limits, and their places in a schema.
use Rattle.std.specs.Prelude.{◌≡◌, ◌^◌, ◌==◌, nat_le, ℕ, true, false, List, [], ◌∷◌, find, codes}
use Rattle.std.specs.Prelude.{Option, Some, option_map, option_and_then, slice_get, unwrap_or, None}
use Rattle.std.specs.Prelude.{◌⊎◌}
use Rattle.urb_sqlite.specs.declared.sql.TheConstants.{LONGEST_IN_FIRST, LONGEST_IN_SECOND}
use Rattle.urb_sqlite.specs.declared.sql.Part.{Part}
use Rattle.urb_sqlite.specs.declared.sql.Part.TheVariants.{First, Second}
use Rattle.sqlite_schema.specs.Names.{table_named}
use Rattle.sqlite.specs.Collation.TheVariants.{Binary}
use Rattle.sqlite.specs.declared.types.Value.TheVariants.{Null}
use Rattle.sqlite.specs.Table.{Table}
use Rattle.sqlite.specs.Schema.{Schema}
use Rattle.sqlite_schema.specs.declared.schema.Column.{Column}
use Rattle.sqlite.specs.Kind.TheVariants.{Integer}
use Rattle.sqlite.specs.Kind.TheVariants as kind

-- the name of the table that came first
abbrev pub journal_name : List ℕ
journal_name = codes "journal"

-- the name of the table that takes new records
abbrev pub second_name : List ℕ
second_name = codes "journal2"

-- the greatest number of bytes of a payload in a table
abbrev pub limit_of : Part → ℕ
limit_of First = LONGEST_IN_FIRST
limit_of Second = LONGEST_IN_SECOND

-- the text that makes the first table if it is absent
abbrev pub create_text : List ℕ
create_text =
    codes "CREATE TABLE IF NOT EXISTS journal(pos INTEGER PRIMARY KEY, kind INTEGER NOT NULL, sender INTEGER NOT NULL, seq INTEGER NOT NULL, client INTEGER NOT NULL, number INTEGER NOT NULL, payload BLOB NOT NULL) STRICT"

-- a column of integers that is not null
abbrev pub integer : List ℕ → Column
integer name = record {
  name = name;
  kind = Integer;
  is_strict = true;
  not_null = true;
  default =
      Null;
  collation = Binary;
}

-- the table of records with this name; its rows are in this tree
abbrev pub record_table : List ℕ → ℕ → Table
record_table name tree = record {
  name = name;
  tree = tree;
  columns =
      (record {
        name = codes "pos";
        kind = Integer;
        is_strict = true;
        not_null = false;
        default =
            Null;
        collation = Binary;
      })
      ∷ integer (codes "kind") ∷ integer (codes "sender") ∷ integer (codes "seq") ∷ integer
      (codes "client") ∷ integer (codes "number")
      ∷ (record {
        name = codes "payload";
        kind = kind.Blob;
        is_strict = true;
        not_null =
            true;
        default = Null;
        collation = Binary;
      }) ∷ [];
  key = Some 0;
  primary = 0 ∷ [];
  uniques = [];
  orders = [];
  checks = [];
  references = [];
  computed = [];
  stamps = record { places = []; terms = []; formats = [] };
  is_counted = false;
}

-- the table with this name, wherever it is in the schema
abbrev pub table_of : Schema → List ℕ → Option Table
table_of schema name = option_and_then (slice_get schema.tables) (table_named schema name)

-- the tree that has the rows of the table with this name; 0 if there is no such table
abbrev pub tree_of : Schema → List ℕ → ℕ
tree_of schema name = unwrap_or (option_map (λ t. t.tree) (table_of schema name)) 0

-- The schema's table with this name is a table of records. No table before it has its tree, and the
-- tree is a stored one.
pub record HasTable (schema : Schema) (name : List ℕ) : Type 0 where
  pub there : table_of schema name ≡ Some (record_table name (tree_of schema name))
  pub alone : find (λ t. t.tree == tree_of schema name) schema.tables ≡ Some
      (record_table name (tree_of schema name))
  pub stored : nat_le (2 ^ 31) (tree_of schema name) ≡ false

-- the schema has no table with this name
abbrev pub Lacks : Schema → List ℕ → Type 0
Lacks schema name = table_of schema name ≡ None

-- Both tables are there. There may also be other tables, indexes and views.
pub record HasBoth (schema : Schema) : Type 0 where
  pub first : HasTable schema journal_name
  pub second : HasTable schema second_name

-- The table journal is there. The table journal2 is there too, or it is absent.
abbrev pub HasJournal : Schema → Type 0
HasJournal schema =
    HasTable schema journal_name × (HasTable schema second_name ⊎ Lacks schema second_name)

-- the table of this name is a table of records, or there is no table of this name
abbrev pub MayTake : Schema → List ℕ → Type 0
MayTake schema name = HasTable schema name ⊎ Lacks schema name

-- Each of the two tables is a table of records or is absent, so a journal opens here. Other tables
-- make no difference.
abbrev pub IsAdoptable : Schema → Type 0
IsAdoptable schema = MayTake schema journal_name × MayTake schema second_name
