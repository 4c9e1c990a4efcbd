-- Whether a table is a journal's table, judged by its parts.
use Rattle.std.specs.Prelude.{ℕ, Bool, true, false, not, ◌&&◌, ◌==◌, List, codes, length, slice_get}
use Rattle.std.specs.Prelude.{option_map, option_and_then, unwrap_or}
use Rattle.std.specs.Str.{bytes_eq}
use Rattle.sqlite_value.specs.declared.keys.Collation.{Collation}
use Rattle.sqlite_value.specs.declared.keys.Collation.TheVariants.{Binary}
use Rattle.sqlite_value.specs.declared.value.Value.{Value}
use Rattle.sqlite_value.specs.declared.value.Value.TheVariants.{Null}
use Rattle.sqlite_schema.specs.declared.schema.Kind.{Kind}
use Rattle.sqlite_schema.specs.declared.schema.Kind.TheVariants.{Integer, Blob}
use Rattle.sqlite_schema.specs.declared.schema.Column.{Column}
use Rattle.sqlite_schema.specs.declared.schema.Table.{Table}
use Rattle.sqlite_schema.specs.declared.schema.Schema.{Schema}
use Rattle.sqlite_schema.specs.Names.{table_named, is_key}

-- whether the value is null
abbrev pub is_null : Value → Bool
is_null Null = true
is_null _ = false

-- whether the collation compares bytes as they are
abbrev pub is_binary : Collation → Bool
is_binary Binary = true
is_binary _ = false

-- whether the type is that of integers
abbrev pub is_integer : Kind → Bool
is_integer Integer = true
is_integer _ = false

-- whether the type is that of bytes
abbrev pub is_blob : Kind → Bool
is_blob Blob = true
is_blob _ = false

-- whether a column has this name, takes only values of its type, and has no default and no
-- collation
abbrev pub is_plain : List ℕ → Column → Bool
is_plain name c = bytes_eq c.name name && c.is_strict && is_null c.default && is_binary c.collation

-- whether the column is the rowid
abbrev pub is_rowid : List ℕ → Column → Bool
is_rowid name c = is_plain name c && is_integer c.kind && not c.not_null

-- whether the column has integers and is not null
abbrev pub is_count : List ℕ → Column → Bool
is_count name c = is_plain name c && is_integer c.kind && c.not_null

-- whether the column has bytes and is not null
abbrev pub is_bytes : List ℕ → Column → Bool
is_bytes name c = is_plain name c && is_blob c.kind && c.not_null

-- whether the column at this place passes
abbrev pub passes_at : (Column → Bool) → List Column → ℕ → Bool
passes_at test columns at = unwrap_or (option_map test (slice_get columns at)) false

-- whether these are the columns of a journal
abbrev pub are_columns : List Column → Bool
are_columns cs =
    length cs == 7
    && passes_at (is_rowid (codes "pos")) cs 0 && passes_at (is_count (codes "kind")) cs 1
    && passes_at (is_count (codes "sender")) cs 2 && passes_at (is_count (codes "seq")) cs 3
    && passes_at (is_count (codes "client")) cs 4 && passes_at (is_count (codes "number")) cs 5
    && passes_at (is_bytes (codes "payload")) cs 6

-- whether the table's one key is its first column
abbrev pub is_keyed : Table → Bool
is_keyed t =
    is_key t.key 0 && length t.primary == 1
    && unwrap_or (option_map (λ k. k == 0) (slice_get t.primary 0)) false

-- whether the table has no rule other than those of its columns
abbrev pub is_free : Table → Bool
is_free t =
    length t.uniques == 0 && length t.orders == 0 && length t.checks == 0
    && length t.references == 0

-- whether no value of the table is computed
abbrev pub is_written : Table → Bool
is_written t =
    length t.computed == 0 && length t.stamps.places == 0 && length t.stamps.terms == 0
    && length t.stamps.formats == 0 && not t.is_counted

-- whether the table has this name and is a table of records, in any tree
abbrev pub is_journal : List ℕ → Table → Bool
is_journal name t =
    bytes_eq t.name name && are_columns t.columns && is_keyed t && is_free t && is_written t

-- whether the table with this name is a table of records
abbrev pub has_table : List ℕ → Schema → Bool
has_table name schema =
    unwrap_or (option_map (is_journal name)
    (option_and_then (slice_get schema.tables) (table_named schema name))) false
