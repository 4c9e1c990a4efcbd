-- The row of a record, the rows of a table, and the records that rows stand for.
use Rattle.std.specs.Prelude.{◌≡◌, IsPermutation, IsSorted, All, ℕ, ◌+◌, ◌<◌, ◌≤◌, pos, List, []}
use Rattle.std.specs.Prelude.{◌∷◌, ◌++◌, length, map, ◌⊎◌, option_map, unwrap_or}
use Rattle.sqlite.specs.declared.types.Value.TheVariants.{Int, Blob}
use Rattle.sqlite.specs.Order.{Row, column, value_cmp}
use Rattle.sqlite.specs.Tree.{Trees}
use Rattle.sqlite.specs.Effect.{Database}
use Rattle.std.specs.declared.cmp.Ordering.{Ordering}
use Rattle.sqlite_keyed.specs.Lists.{sort_by}
use Rattle.urb_stable.specs.Entries.{Entry, IsEntry}
use Rattle.urb_stable.specs.declared.record.Record.TheVariants.{Pend, PendCert, Cert}
use Rattle.urb_sqlite.specs.JournalTables.{journal_name, second_name, limit_of, table_of, tree_of}
use Rattle.urb_sqlite.specs.declared.sql.Part.TheVariants.{First, Second}

-- ---- a record as a row

-- the columns pos, kind, sender, seq, client, number and payload
abbrev pub columns_of : ℕ → ℕ → ℕ → ℕ → ℕ → ℕ → List ℕ → Row
columns_of place kind sender seq client number payload =
    Int (pos place) ∷ Int (pos kind) ∷ Int (pos sender) ∷ Int (pos seq) ∷ Int (pos client) ∷ Int
    (pos number) ∷ Blob payload ∷ []

-- The row of a record at a place. Its kind is 1, 2 or 3. A certificate without a message has client
-- 0, number 0 and no bytes.
abbrev pub row_of : ℕ → Entry → Row
row_of place (Pend name m) = columns_of place 1 name.sender name.seq m.client m.number m.payload
row_of place (PendCert name m) = columns_of place 2 name.sender name.seq m.client m.number m.payload
row_of place (Cert name) = columns_of place 3 name.sender name.seq 0 0 []

-- the rows of records, the first one at this place
abbrev pub rows_of : ℕ → List Entry → List Row
rows_of place [] = []
rows_of place (r ∷ records) = row_of place r ∷ rows_of (place + 1) records

-- ---- the rows of a table

-- the seven columns that a row of the tree shows
abbrev pub shown : Row → Row
shown row =
    column row 0 ∷ column row 2 ∷ column row 3 ∷ column row 4 ∷ column row 5 ∷ column row 6
    ∷ column row 7 ∷ []

-- rows are ordered by their first column
abbrev pub by_pos : Row → Row → Ordering
by_pos a b = value_cmp (column a 0) (column b 0)

-- the rows of the table in this tree, in order of pos
abbrev pub rows_in : ℕ → Trees → List Row
rows_in tree db = sort_by by_pos (map shown (db tree))

-- these are the rows of the table in this tree, in an order that their pos allows
pub record IsInOrder (tree : ℕ) (db : Trees) (rows : List Row) : Type 0 where
  pub same : IsPermutation (map shown (db tree)) rows
  pub sorted : IsSorted by_pos rows

-- ---- the records of rows

-- the bytes of a record's payload
abbrev pub payload_of : Entry → List ℕ
payload_of (Pend name m) = m.payload
payload_of (PendCert name m) = m.payload
payload_of (Cert name) = []

-- The record's name and message are within their limits, and its payload is within the table's
-- limit.
pub record IsWithin (limit : ℕ) (r : Entry) : Type 0 where
  pub entry : IsEntry r
  pub payload : length (payload_of r) ≤ limit

-- the first seven columns of a row
abbrev pub columns_in : Row → Row
columns_in row =
    column row 0 ∷ column row 1 ∷ column row 2 ∷ column row 3 ∷ column row 4 ∷ column row 5
    ∷ column row 6 ∷ []

-- These rows are those of the records, the first one at this place. The last place, 4,294,967,295,
-- has no row.
pub record Spells (limit first : ℕ) (rows : List Row) (records : List Entry) : Type 0 where
  pub spelled : map columns_in rows ≡ rows_of first records
  pub limits : All (IsWithin limit) records
  pub places : first + length records ≤ 4294967295

-- no record has this row at this place
abbrev pub IsNoRecord : ℕ → ℕ → Row → Type 0
IsNoRecord limit place row =
    (r : Entry) → IsWithin limit r → place < 4294967295 → columns_in row ≡ row_of place r → ⊥

-- The row at this place is no record, and all rows before it are records.
pub record IsFirstBad (limit first : ℕ) (rows : List Row) (place : ℕ) : Type 0 where
  pub good : List Row
  pub records : List Entry
  pub row : Row
  pub rest : List Row
  pub parts : rows ≡ good ++ row ∷ rest
  pub before : Spells limit first good records
  pub here : place ≡ first + length records
  pub bad : IsNoRecord limit place row

-- the rows of the table with this name, in order of pos; none if there is no such table
abbrev pub table_rows : Database → List ℕ → List Row
table_rows d name = unwrap_or (option_map (λ t. rows_in t.tree d.trees) (table_of d.schema name)) []

-- The two tables stand for these records, one table after the other: the places of the second
-- continue those of the first.
pub record StandsFor (d : Database) (records : List Entry) : Type 0 where
  pub first : List Entry
  pub second : List Entry
  pub whole : records ≡ first ++ second
  pub in_first : Spells (limit_of First) 1 (table_rows d journal_name) first
  pub in_second : Spells (limit_of Second) (1 + length first) (table_rows d second_name) second

-- Over both tables, the first row that is no record is the one at this place.
abbrev pub IsFirstBadOf : Database → ℕ → Type 0
IsFirstBadOf d place =
    ((rows : List Row) × IsInOrder (tree_of d.schema journal_name) d.trees rows
    × IsFirstBad (limit_of First) 1 rows place)
    ⊎ ((first : List Entry) × Spells (limit_of First) 1 (table_rows d journal_name) first
    × (rows : List Row) × IsInOrder (tree_of d.schema second_name) d.trees rows
    × IsFirstBad (limit_of Second) (1 + length first) rows place)
