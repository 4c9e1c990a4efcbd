-- A file whose tables are those of a journal opens with the journal's schema.
use Rattle.urb_sqlite.proofs.Common.{AllZip, Database, HasTable, Image, Int, IsAdoptable, IsBase}
use Rattle.urb_sqlite.proofs.Common.{IsHonestJournal, IsJournal, IsLive, IsNothing, IsSound}
use Rattle.urb_sqlite.proofs.Common.{IsTableRow, Lacks, List, Ok, Opens, Row, Some, StandsFor, Text}
use Rattle.urb_sqlite.proofs.Common.{[], ap, ap₂, arith, catalog_tree, column, database_of, false}
use Rattle.urb_sqlite.proofs.Common.{filter, inl, inr, journal_name, length, nat_le, pos}
use Rattle.urb_sqlite.proofs.Common.{record_table, records_of, refl, rowid, second_name, subst, sym}
use Rattle.urb_sqlite.proofs.Common.{table_of, table_rows, tree_of, ℕ, ◌+◌, ◌==◌, ◌^◌, ◌∙◌, ◌∷◌}
use Rattle.urb_sqlite.proofs.Common.{◌≡◌}
use Rattle.std.proofs.Common.{find}
use Rattle.sqlite.specs.Tree.{Trees}
use Rattle.sqlite.specs.Table.{Table}
use Rattle.sqlite.specs.Schema.{Schema}
use Rattle.sqlite_catalog.specs.Listing.{IsIndexRow, IsViewRow, is_index_row, is_table_row}
use Rattle.sqlite_catalog.specs.Listing.{is_view_row}
use Rattle.sqlite.specs.State.{State}
use Rattle.urb_sqlite.specs.JournalTables.{MayTake}
use Rattle.urb_sqlite.specs.internal.JournalStatements.{no_schema}
use Rattle.sqlite.specs.Files.{AreFoundIn}
use Rattle.urb_sqlite.specs.OpenJournal.{IsBare, base_of}
use Rattle.std.proofs.lemmas.Grind.{not_there}
use Rattle.urb_sqlite.proofs.BlankFiles.{holds_something}
use Rattle.urb_sqlite.proofs.StoredRows.{stands_same}

same_text : (row : Row) (a b : List ℕ) → column row 4 ≡ Text a → column row 4 ≡ Text b → a ≡ b
same_text row a b p q = let e : Text a ≡ Text b = sym p ∙ q in cc

same_tree : (row : Row) (a b : ℕ) → rowid row ≡ Int (pos (a + 1)) → rowid row ≡ Int (pos (b + 1))
    → a ≡ b
same_tree row a b p q =
    let e : Int (pos (a + 1)) ≡ Int (pos (b + 1)) = sym p ∙ q in let n : a + 1 ≡ b + 1 = cc in
    omega arith

-- one row of the list defines one table
one_table : (row : Row) (s t : Table) → IsTableRow row s → IsTableRow row t → s ≡ t
one_table row s t h k =
    let sql = same_text row h.sql k.sql h.sql_is k.sql_is in
    let tree = same_tree row s.tree t.tree h.described.id k.described.id in
    let both : Ok h.defined.0 ≡ Ok k.defined.0 =
    sym h.defined.1 ∙ ap Rattle.sqlite_resolve.specs.Compile.table_defined_by sql
    ∙ k.defined.1 in
    let made : h.defined.0 ≡ k.defined.0 = cc in
    h.defined.2 ∙ ap₂ (λ (m : Table) (n : ℕ). record m { tree = n }) made tree ∙ sym k.defined.2

same_tables : (rows : List Row) (ss ts : List Table) → AllZip IsTableRow rows ss
    → AllZip IsTableRow rows ts → ss ≡ ts
same_tables [] [] [] h k = refl
same_tables [] [] (t ∷ ts) h k = absurd k
same_tables [] (s ∷ ss) ts h k = absurd h
same_tables (r ∷ rows) [] ts h k = absurd h
same_tables (r ∷ rows) (s ∷ ss) [] h k = absurd k
same_tables (r ∷ rows) (s ∷ ss) (t ∷ ts) h k =
    ap₂ ◌∷◌ (one_table r s t h.0 k.0) (same_tables rows ss ts h.1 k.1)

-- a database lists its tables in one way
pub one_list : (schema other : Schema) (db : Trees) → IsSound schema db → IsSound other db
    → schema.tables ≡ other.tables
one_list schema other db h k =
    same_tables (filter is_table_row (db catalog_tree))
    schema.tables other.tables h.lists.listed.tables k.lists.listed.tables

-- a schema of these tables alone
abbrev bare : List Table → Schema
bare tables = record { tables = tables; indexes = []; views = [] }

-- whether a table of a name is there, and in which tree, depends only on the tables
pub same_has : (s k : Schema) (name : List ℕ) → s.tables ≡ k.tables → HasTable k name
    → HasTable s name
same_has s k name same has = record {
  there =
      subst (λ ts. table_of (bare ts) name ≡ Some (record_table name (tree_of (bare ts) name)))
      (sym same) has.there;
  alone =
      subst (λ ts. find (λ (t : Table). t.tree == tree_of (bare ts) name) ts ≡ Some
      (record_table name (tree_of (bare ts) name))) (sym same) has.alone;
  stored = subst (λ ts. nat_le (2 ^ 31) (tree_of (bare ts) name) ≡ false) (sym same) has.stored;
}

may_take : (s k : Schema) (name : List ℕ) → s.tables ≡ k.tables → MayTake k name → MayTake s name
may_take s k name same (inl has) = inl (same_has s k name same has)
may_take s k name same (inr none) = inr (ap (λ ts. table_of (bare ts) name) same ∙ none)

-- A connection that found a database is adopted with the records that its tables stand for.
pub finds_base : (conn now : State) (db : Trees) → IsLive conn → Opens conn
    → conn.committed.trees ≡ db → (base : IsBase db)
    → (IsAdoptable conn.now.schema → IsHonestJournal now × StandsFor conn.now (records_of now.now))
    → IsHonestJournal now × StandsFor (base_of base) (records_of now.now)
finds_base conn now db live opens is base adopted =
    let trees : conn.now.trees ≡ db = ap (λ (d : Database). d.trees) opens.clean ∙ is in
    let tables =
    one_list conn.now.schema base.schema db
    (subst (IsSound conn.now.schema) trees (live opens.is_open).0) base.sound in
    let got =
    adopted (
      may_take conn.now.schema base.schema journal_name tables base.has.0,
      may_take conn.now.schema base.schema second_name tables base.has.1,
    ) in
    let here : StandsFor (record { schema = conn.now.schema; trees = db }) (records_of now.now) =
    subst (λ t. StandsFor (record { schema = conn.now.schema; trees = t }) (records_of now.now))
    trees got.1 in (
      got.0,
      stands_same (record { schema = conn.now.schema; trees = db }) (base_of base)
          (records_of now.now) (same_rows journal_name tables) (same_rows second_name tables) here,
    )
  where
    same_rows : (name : List ℕ) → conn.now.schema.tables ≡ base.schema.tables
        → table_rows (base_of base) name ≡ table_rows
        (record { schema = conn.now.schema; trees = db }) name
    same_rows name tables =
        ap (λ ts. table_rows (record { schema = bare ts; trees = db }) name) (sym tables)

-- A connection that found a journal is adopted with the records of the journal.
pub finds_journal : (conn now : State) (db : Trees) → IsLive conn → Opens conn
    → conn.committed.trees ≡ db → (journal : IsJournal db)
    → (IsAdoptable conn.now.schema → IsHonestJournal now × StandsFor conn.now (records_of now.now))
    → IsHonestJournal now × StandsFor (database_of journal) (records_of now.now)
finds_journal conn now db live opens is journal adopted =
    finds_base conn now db live opens is
    (record {
      schema = journal.schema;
      has = (inl journal.has.0, journal.has.1);
      sound =
          journal.sound;
    }) adopted

empty_zip : {A B : Type 0} (R : A → B → Type 0) (xs : List B) → AllZip R [] xs → xs ≡ []
empty_zip R [] h = refl
empty_zip R (x ∷ xs) h = absurd h

-- a database that lists nothing has no table
pub bare_schema : (schema : Schema) (db : Trees) → db catalog_tree ≡ [] → IsSound schema db
    → schema ≡ no_schema
bare_schema schema db none sound =
    let found = sound.lists.listed in
    let tables =
    empty_zip IsTableRow schema.tables
    (subst (λ rows. AllZip IsTableRow (filter is_table_row rows) schema.tables)
    none found.tables) in
    let indexes =
    empty_zip (IsIndexRow schema.tables) schema.indexes
    (subst (λ rows. AllZip (IsIndexRow schema.tables) (filter is_index_row rows) schema.indexes)
    none found.indexes) in
    let views =
    empty_zip IsViewRow schema.views
    (subst (λ rows. AllZip IsViewRow (filter is_view_row rows) schema.views) none found.views)
    in
    let made : record { tables = schema.tables; indexes = schema.indexes; views = schema.views }
    ≡ no_schema = rw (tables, indexes, views) refl in
    made

-- if the database file is empty, the files hold no database
pub empty_is_nothing : (image : Image) → image.db ≡ [] → IsNothing image
empty_is_nothing image none = inl (inl (ap length none))

-- no name is that of a table there
pub bare_lacks : (schema : Schema) → schema ≡ no_schema → (name : List ℕ) → Lacks schema name
bare_lacks schema is name = ap (λ (s : Schema). table_of s name) is

-- A connection over a database that lists nothing finds no table.
pub finds_bare : (conn : State) (db : Trees) → IsLive conn → Opens conn → conn.committed.trees ≡ db
    → IsBare db → (name : List ℕ) → Lacks conn.now.schema name
finds_bare conn db live opens is none =
    let listed : conn.now.trees catalog_tree ≡ [] =
    ap (λ (d : Database). d.trees catalog_tree) opens.clean
    ∙ ap (λ (t : Trees). t catalog_tree) is ∙ none in
    bare_lacks conn.now.schema (bare_schema conn.now.schema conn.now.trees listed
    (live opens.is_open).0)

-- A connection over files that hold no database finds no table either.
pub finds_nothing : (conn : State) (image : Image) → IsLive conn → Opens conn → IsNothing image
    → AreFoundIn image conn.committed.trees → (name : List ℕ) → Lacks conn.now.schema name
finds_nothing conn image live opens none (inl it) =
    absurd (not_there it.4 (λ ours. holds_something it.0 image it.1 it.3 ours.file.sound none))
finds_nothing conn image live opens none (inr it) =
    finds_bare conn conn.committed.trees live opens refl it.1.1
