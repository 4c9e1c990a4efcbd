-- What a DELETE of the last rows does to the table of its name.
use Rattle.urb_sqlite.proofs.Common.{AllByRecursion, AtPlace, Bool, arith, Database, Does}
use Rattle.urb_sqlite.proofs.Common.{Enforced, Executes, HasTable, Int, IsPermutation, IsPlain}
use Rattle.urb_sqlite.proofs.Common.{List, None, Null, Ok, OnRows, Option, Parsed, Row, Some}
use Rattle.urb_sqlite.proofs.Common.{Tally, [], accepts_program, ap, codes, column}
use Rattle.urb_sqlite.proofs.Common.{command_of, cond}
use Rattle.urb_sqlite.proofs.Common.{everything, false, filter, flat_map, length, map, mode_of}
use Rattle.urb_sqlite.proofs.Common.{nat_le, pos, query_of, record_table, refl, second_name}
use Rattle.urb_sqlite.proofs.Common.{slice_get, subst, sym, tree_of, true, understood}
use Rattle.urb_sqlite.proofs.Common.{unwrap_or, ℕ, ℤ, ◌&&◌, ◌++◌, ◌==◌, ◌^◌, ◌∙◌, ◌∷◌, ◌≡◌, ◌≢◌}
use Rattle.std.proofs.Common.{find}
use Rattle.std.specs.List.{filter_map}
use Rattle.std.proofs.lemmas.List.{length-map}
use Rattle.std.proofs.lemmas.List.Sorted.{IsPermutation-map, length_permutation}
use Rattle.sqlite_trees.proofs.ListLemmas.{map-map}
use Rattle.sqlite_sql.specs.Term.{holds}
use Rattle.sqlite_ast.specs.declared.Expr.{Expr}
use Rattle.sqlite.specs.Edit.{edit_of, id_in, taken_by, without_all}
use Rattle.sqlite.specs.Query.{IsAnswer, Output, Query, output}
use Rattle.sqlite.specs.Program.{overlay}
use Rattle.sqlite_schema.specs.declared.program.Program.{Program}
use Rattle.sqlite.specs.Rowids.TheVariants.{Given}
use Rattle.sqlite.specs.Rows.{Written}
use Rattle.sqlite.specs.Tree.{Trees, rowid}
use Rattle.sqlite.specs.State.{State}
use Rattle.sqlite.proofs.Callers.{one_step, runs_as, statement_of}
use Rattle.sqlite_schema.specs.declared.schema.Schema.{Schema}
use Rattle.sqlite_schema.specs.declared.schema.Table.{Table}
use Rattle.sqlite_schema.specs.declared.schema.Keys.{Keys}
use Rattle.sqlite_rules.specs.Action.{work_for, works}
use Rattle.sqlite_rules.specs.Calls.{ids_of}
use Rattle.urb_sqlite.specs.internal.TableReferences.{RefersToNone}
use Rattle.urb_sqlite.specs.internal.JournalStatements.{delete_text}
use Rattle.urb_sqlite.proofs.InsertStatement.{same_value, went}
use Rattle.urb_sqlite.proofs.ResolvedSelects.{IsOfText, understood_is}
use Rattle.urb_sqlite.proofs.ResolvedDeletes.{IsFrom, draft_from, from_test, removed_is}
use Rattle.urb_sqlite.proofs.SelectStatement.{overlaid}
use Rattle.urb_sqlite.proofs.StatementTexts.{found_at}
use Rattle.sqlite.specs.Command.TheVariants as command
use Rattle.sqlite_ast.specs.declared.Statement.TheVariants as written

-- ---- what the text means

-- a DELETE of the rows of the table of this name whose first column isn't below the parameter
pub record Takes (text name : List ℕ) : Type 0 where
  pub p : Parsed
  pub e : Expr
  pub of : IsOfText text p (written.Delete name (Some e) [])
  pub from : (tree : ℕ) → IsFrom (record_table name tree) e

-- the DELETE of a journal takes rows out of the second table
pub delete_parsed : Takes delete_text second_name
unfolding everything
delete_parsed = record {
  p = _;
  e = _;
  of = record { parsed = refl; statement = refl; formats = refl };
  from = λ tree. record {
    a = _;
    b = _;
    name = codes "pos";
    c = _;
    is = refl;
    column_is = refl;
    parameter_is = refl;
    named = refl;
    has = refl;
    place = refl;
    bare = refl;
  };
}

-- the query of the rowids that the DELETE takes out of the table in this tree
abbrev pub query_from : ℕ → Query
query_from tree = query_of (draft_from (record_table [] tree))

-- the same as a program
abbrev pub program_from : ℕ → Program
program_from tree = record { lets = []; body = query_from tree }

-- the types of the query fit if the table is found in its tree
typed : (s : Schema) (name : List ℕ) (tree : ℕ)
    → find (λ (t : Table). t.tree == tree) s.tables ≡ Some (record_table name tree)
    → nat_le (2 ^ 31) tree ≡ false → accepts_program s [] (query_from tree) [] ≡ true
typed s name tree alone stored = rw (stored, alone) refl

-- under this schema, the text is a DELETE from the table of this name
pub record IsRemoved (s : Schema) (text name : List ℕ) : Type 0 where
  pub at : ℕ
  pub there : slice_get s.tables at ≡ Some (record_table name (tree_of s name))
  pub command_is : command_of (understood s text) ≡ command.Delete at
      (program_from (tree_of s name))
  pub plain : IsPlain (understood s text)

-- the DELETE takes rows out of the table of the name
pub remove_is : (s : Schema) (text name : List ℕ) → HasTable s name → Takes text name
    → IsRemoved s text name
remove_is s text name has h =
    let it = found_at s name has in
    let tree = tree_of s name in
    let t = record_table name tree in
    let known =
    understood_is s text _ (removed_is s it.at t it.there text h.p name h.e h.of (h.from tree)
    it.named (typed s name tree has.alone has.stored)) in
    record {
      at = it.at;
      there = it.there;
      command_is = ap command_of known.0;
      plain = subst IsPlain (sym known.0) (refl, refl);
    }

-- ---- no foreign key acts if no table has one

-- a list of no elements is empty
empty_if : {X : Type 0} (xs : List X) → length xs ≡ 0 → xs ≡ []
empty_if [] h = refl
empty_if (x ∷ xs) h = absurd (omega (arith, h))

-- tables without references ask for no action
no_work_in : (schema : Schema) (keys : Keys) (depth tree : ℕ) (olds news : List Row)
    (tables : List Table) → AllByRecursion (λ (t : Table). length t.references ≡ 0) tables
    → flat_map (λ (child : Table). filter_map (work_for schema keys depth tree olds news child)
    child.references) tables ≡ []
no_work_in schema keys depth tree olds news [] none = refl
no_work_in schema keys depth tree olds news (t ∷ tables) none =
    rw (empty_if t.references none.0) (no_work_in schema keys depth tree olds news tables none.1)

-- if no table refers to another one, taking out rows sets off no action
no_work : (schema : Schema) (keys : Keys) (depth tree : ℕ) (olds news : List Row)
    → RefersToNone schema → works schema keys depth tree olds news ≡ []
no_work schema keys depth tree olds news none =
    no_work_in schema keys depth tree olds news schema.tables none

-- ---- what the query picks

-- whether the DELETE picks this row
abbrev pub is_from : ℕ → Row → Bool
is_from first r = holds ((Int (pos first) ∷ []) ∷ r ∷ []) from_test

-- the way to fill the slots with this row
abbrev env : ℕ → Row → List Row
env first r = (Int (pos first) ∷ []) ∷ r ∷ []

-- a row fills the slots if it is picked
picked_one : (first : ℕ) (r : Row) (rows : List Row) (b : Bool)
    → cond (b && true) (env first r ∷ []) [] ++ map (env first) rows
    ≡ map (env first) (cond b (r ∷ rows) rows)
picked_one first r rows true = refl
picked_one first r rows false = refl

-- the ways to fill the slots are those of the picked rows
picked_are : (first : ℕ) (rows : List Row)
    → flat_map (λ r. cond (is_from first r && true) (env first r ∷ []) []) rows
    ≡ map (env first) (filter (is_from first) rows)
picked_are first [] = refl
picked_are first (r ∷ rows) =
    ap (λ more. cond (is_from first r && true) (env first r ∷ []) [] ++ more)
    (picked_are first rows)
    ∙ picked_one first r (filter (is_from first) rows) (is_from first r)

-- the answer has the first column of each row that the DELETE picks
answer_is : (db : Trees) (tree first : ℕ) (rows : List Row) → nat_le (2 ^ 31) tree ≡ false
    → IsAnswer (query_from tree) (overlay db []) (Int (pos first) ∷ []) rows
    → IsPermutation (map (λ r. column r 0 ∷ []) (filter (is_from first) (db tree))) rows
answer_is db tree first rows stored a =
    let kept_rows = filter (is_from first) (db tree) in
    let over : a.staged
    ≡ flat_map (λ r. cond (is_from first r && true) (env first r ∷ []) []) (db tree) =
    subst (λ (rs : List Row). a.staged
    ≡ flat_map (λ r. cond (is_from first r && true) (env first r ∷ []) []) rs)
    (overlaid db tree stored) a.grouped in
    let staged : a.staged ≡ map (env first) kept_rows = over ∙ picked_are first (db tree) in
    let kept : a.kept ≡ map (λ r. ([], column r 0 ∷ [])) kept_rows =
    a.distinct ∙ ap (map (output (query_from tree))) staged
    ∙ map-map (output (query_from tree)) (env first) kept_rows in
    let same : IsPermutation (map (λ r. ([], column r 0 ∷ [])) kept_rows) a.ordered =
    subst (λ k. IsPermutation k a.ordered) kept a.same in
    let moved =
    subst (λ k. IsPermutation k (map (λ (o : Output). o.1) a.ordered))
    (map-map (λ (o : Output). o.1) (λ r. ([], column r 0 ∷ [])) kept_rows)
    (IsPermutation-map (λ (o : Output). o.1) _ _ same) in
    rw a.shown moved

-- ---- what the DELETE does

-- A database after the DELETE: `count` rows were picked and taken out.
pub record HasTaken (old after : Database) (tree first count : ℕ) : Type 0 where
  pub schema : after.schema ≡ old.schema
  pub ids : List ℤ
  pub rows : after.trees tree ≡ without_all (old.trees tree) ids
  pub picked : IsPermutation (map (λ r. id_in (column r 0))
      (filter (is_from first) (old.trees tree))) ids
  pub counted : count ≡ length (filter (is_from first) (old.trees tree))
  pub others : AllByRecursion (λ (t : Table). t.tree ≢ tree → after.trees t.tree ≡ old.trees t.tree)
      old.schema.tables

-- the picked rows are taken out of the table's tree, and no other table of the schema is touched
does_take : (old : State) (name : List ℕ) (tree at first : ℕ) (text : List ℕ) (tally : Tally)
    (after : Database) → nat_le (2 ^ 31) tree ≡ false → RefersToNone old.now.schema
    → slice_get old.now.schema.tables at ≡ Some (record_table name tree)
    → Does old.step_limit (mode_of old) (Int (pos first) ∷ []) old.now text None
    (command.Delete at (program_from tree)) (Ok (tally, after))
    → HasTaken old.now after tree first (unwrap_or tally.rows 0)
does_take old name tree at first text tally after stored apart there done_at =
    let params = Int (pos first) ∷ [] in
    let db = old.now.trees in
    let schema = old.now.schema in
    let table = record_table name tree in
    let command = command.Delete at (program_from tree) in
    let done =
    went (subst (λ (o : Option Table).
    AtPlace (λ table. OnRows (record {
      limit = old.step_limit;
      keys = Enforced;
      schema = schema;
      table = table;
      params =
          params;
    }) (mode_of old) None command db) o (Ok (tally, after))) there done_at) in
    let both = same_value (went (went done.2).2).2 in
    let now = ap (λ (p : Tally × Database). p.1) both in
    let told = ap (λ (p : Tally × Database). unwrap_or p.0.rows 0) both in
    let given = went done.1 in
    let rows : List Row = given.0 in
    let written = went given.2 in
    let is = same_value written.2 in
    let ids = ids_of rows in
    let edit = edit_of db table ids Given 0 [] in
    let trees : done.0.trees ≡ written.0 = ap (λ (it : Written). it.trees) is in
    let all : after.trees ≡ written.0 = ap (λ (d : Database). d.trees) now ∙ trees in
    let applied =
    one_step schema Enforced db written.0 edit
    (no_work schema Enforced 0 edit.table.tree (taken_by db edit) edit.news apart) written.1 in
    let answer = answer_is db tree first rows stored (given.1.answer Null) in
    let kept_rows = filter (is_from first) (db tree) in
    let gone : length done.0.rows ≡ length ids =
    ap (λ (it : Written). length it.rows) is ∙ length-map ids _ in
    let picked : IsPermutation (map (λ r. id_in (column r 0)) kept_rows) ids =
    subst (λ k. IsPermutation k ids)
    (map-map (λ r. id_in (rowid r)) (λ r. column r 0 ∷ []) kept_rows)
    (IsPermutation-map (λ r. id_in (rowid r)) _ _ answer) in
    record {
      schema = ap (λ (d : Database). d.schema) now;
      ids = ids;
      rows = ap (λ (t : Trees). t tree) all ∙ applied.rows;
      picked = picked;
      counted =
          told ∙ gone ∙ length_permutation _ _ picked ∙ length-map kept_rows _;
      others =
          subst (λ (next : Trees). AllByRecursion
          (λ (t : Table). t.tree ≢ tree → next t.tree ≡ db t.tree) schema.tables)
          (sym all) applied.tables;
    }

module _ (text name : List ℕ) (parsed : Takes text name) where
  -- A DELETE that succeeds takes the picked rows out of its table, and no other table changes.
  pub removes : (old new : State) (first count : ℕ) → HasTable old.now.schema name
      → RefersToNone old.now.schema → Executes text (Int (pos first) ∷ []) old new (Ok count)
      → HasTaken old.now new.now (tree_of old.now.schema name) first count
  removes old new first count has apart h =
      let params = Int (pos first) ∷ [] in
      let s = old.now.schema in
      let tree = tree_of s name in
      let it = remove_is s text name has parsed in
      let w =
      runs_as text params old new s refl (command.Delete it.at (program_from tree)) it.command_is
      it.plain count h in
      subst (HasTaken old.now new.now tree first) (sym w.counted)
      (does_take old name tree it.at first (statement_of text (understood s text)) w.tally new.now
      has.stored apart it.there w.changed)
