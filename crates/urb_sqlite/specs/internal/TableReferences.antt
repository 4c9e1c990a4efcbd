-- Whether the tables of a database refer to others by foreign keys.
use Rattle.std.specs.List.{AllByRecursion}
use Rattle.std.specs.Prelude.{length, ◌≡◌}
use Rattle.sqlite.specs.Schema.{Schema}
use Rattle.sqlite.specs.Table.{Table}

-- no table refers to another one
abbrev pub RefersToNone : Schema → Type 0
RefersToNone schema = AllByRecursion (λ (t : Table). length t.references ≡ 0) schema.tables
