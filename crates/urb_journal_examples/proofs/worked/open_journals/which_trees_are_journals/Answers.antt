-- Trees that list nothing have no table, and a list of tables is that of one schema.
use Rattle.std.proofs.Common.{List, Ok, [], ap, ap₂, arith, false, inl, inr, refl}
use Rattle.std.proofs.Common.{subst}
use Rattle.std.proofs.Common.{sym, true, ℕ, ◌+◌, ◌∙◌, ◌∷◌, ◌≡◌, ◌⊎◌}
use Rattle.std.specs.List.{AllZip}
use Rattle.std.specs.Prelude.{Option, length, option_map, pos, unwrap_or}
use Rattle.sqlite_catalog.specs.Listing.{IsSound, IsTableRow}
use Rattle.sqlite_resolve.specs.Compile.{table_defined_by}
use Rattle.sqlite_schema.specs.Names.{same_name}
use Rattle.sqlite_schema.specs.declared.schema.Index.{Index}
use Rattle.sqlite_schema.specs.declared.schema.Schema.{Schema}
use Rattle.sqlite_schema.specs.declared.schema.Table.{Table}
use Rattle.sqlite_schema.specs.declared.schema.View.{View}
use Rattle.sqlite_trees.specs.Sound.{fits_kind, is_sound_list}
use Rattle.sqlite_trees.specs.Tree.{rowid}
use Rattle.sqlite_value.specs.Order.{Row, column, value_cmp}
use Rattle.sqlite_value.specs.declared.value.Value.TheVariants.{Int, Text}
use Rattle.urb_sqlite.specs.JournalTables.{HasTable, Lacks, journal_name}
use Rattle.urb_journal_examples.specs.internal.JournalValues.{no_database, short_table}
use Rattle.urb_journal_examples.proofs.worked.open_journals.which_trees_are_journals.Goals as goal

-- what lists no rows has no table
no-table : (tables : List Table) (indexes : List Index) (views : List View)
    → AllZip IsTableRow [] tables
    → HasTable (record { tables = tables; indexes = indexes; views = views }) journal_name → ⊥
no-table [] indexes views listed has = let none = has.there in absurd (cc)
no-table (t ∷ tables) indexes views listed has = absurd listed

-- the list with a row without columns is no list of objects
unsound : (schema : Schema) → IsSound schema no_database → ⊥
unfolding is_sound_list fits_kind value_cmp
unsound schema sound = let loads : false ≡ true = sound.lists.listed.loads in absurd (cc)

same_text : (row : Row) (a b : List ℕ) → column row 4 ≡ Text a → column row 4 ≡ Text b → a ≡ b
same_text row a b p q = let e : Text a ≡ Text b = sym p ∙ q in cc

same_tree : (row : Row) (a b : ℕ) → rowid row ≡ Int (pos (a + 1)) → rowid row ≡ Int (pos (b + 1))
    → a ≡ b
same_tree row a b p q =
    let e : Int (pos (a + 1)) ≡ Int (pos (b + 1)) = sym p ∙ q in let n : a + 1 ≡ b + 1 = cc in
    omega arith

-- one row of the list defines one table
one_table : (row : Row) (s t : Table) → IsTableRow row s → IsTableRow row t → s ≡ t
one_table row s t h k =
    let sql = same_text row h.sql k.sql h.sql_is k.sql_is in
    let tree = same_tree row s.tree t.tree h.described.id k.described.id in
    let both : Ok h.defined.0 ≡ Ok k.defined.0 =
    sym h.defined.1 ∙ ap table_defined_by sql ∙ k.defined.1 in
    let made : h.defined.0 ≡ k.defined.0 = cc in
    h.defined.2 ∙ ap₂ (λ (m : Table) (n : ℕ). record m { tree = n }) made tree ∙ sym k.defined.2

same_tables : (rows : List Row) (ss ts : List Table) → AllZip IsTableRow rows ss
    → AllZip IsTableRow rows ts → ss ≡ ts
same_tables [] [] [] h k = refl
same_tables [] [] (t ∷ ts) h k = absurd k
same_tables [] (s ∷ ss) ts h k = absurd h
same_tables (r ∷ rows) [] ts h k = absurd h
same_tables (r ∷ rows) (s ∷ ss) [] h k = absurd k
same_tables (r ∷ rows) (s ∷ ss) (t ∷ ts) h k =
    ap₂ ◌∷◌ (one_table r s t h.0 k.0) (same_tables rows ss ts h.1 k.1)

-- a schema with these tables
abbrev listing : List Table → List Index → List View → Schema
listing tables indexes views = record { tables = tables; indexes = indexes; views = views }

-- how many columns a table has, if there is one
abbrev width : Option Table → ℕ
width table = unwrap_or (option_map (λ t. length t.columns) table) 0

-- no journal opens beside the short table of its name
short-alone : (indexes : List Index) (views : List View)
    → HasTable (listing (short_table ∷ []) indexes views) journal_name
    ⊎ Lacks (listing (short_table ∷ []) indexes views) journal_name → ⊥
unfolding same_name
short-alone indexes views (inl has) =
    let columns : 1 ≡ 7 = ap width has.there in omega (arith, columns)
short-alone indexes views (inr lacks) =
    let columns : 1 ≡ 0 = ap width lacks in omega (arith, columns)

not-short : (tables : List Table) (indexes : List Index) (views : List View)
    → short_table ∷ [] ≡ tables
    → HasTable (listing tables indexes views) journal_name
    ⊎ Lacks (listing tables indexes views) journal_name → ⊥
not-short tables indexes views same has =
    short-alone indexes views (subst (λ (them : List Table).
    HasTable (listing them indexes views) journal_name
    ⊎ Lacks (listing them indexes views) journal_name) (sym same) has)

pub returns-clause-no_empty_ones : goal.returns-clause-no_empty_ones
returns-clause-no_empty_ones c h =
    no-table h.schema.tables h.schema.indexes h.schema.views h.sound.lists.listed.tables h.has.0

pub returns-clause-none_with_another_such_table : goal.returns-clause-none_with_another_such_table
returns-clause-none_with_another_such_table c db schema sound short h =
    not-short h.schema.tables h.schema.indexes h.schema.views
    (sym short ∙ same_tables _ _ _ sound.lists.listed.tables h.sound.lists.listed.tables) h.has.0

pub returns-clause-none_that_are_no_database : goal.returns-clause-none_that_are_no_database
returns-clause-none_that_are_no_database c h = unsound h.schema h.sound
