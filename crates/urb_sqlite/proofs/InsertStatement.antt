-- What an INSERT does to the table of its name.
use Rattle.urb_sqlite.proofs.Common.{AllByRecursion, AtPlace, Bool, CommitsBy, Database, Does}
use Rattle.urb_sqlite.proofs.Common.{Enforced, Err, Executes, HasTable, Insert, Int, Integer}
use Rattle.urb_sqlite.proofs.Common.{IsPlain, IsSound, IsTrue, List, None, Null, Ok, OnRows, Option}
use Rattle.urb_sqlite.proofs.Common.{Result, Row, Some, Tally, Value, Values, [], ap, append-nil}
use Rattle.urb_sqlite.proofs.Common.{columns_of, command_of, cond, false, inl, inr, length, mode_of}
use Rattle.urb_sqlite.proofs.Common.{pos, put_row, record_table, refl, slice_get, subst, sym}
use Rattle.urb_sqlite.proofs.Common.{text_of, tree_of, true, understood, ℕ, ◌&&◌, ◌==◌, ◌∙◌, ◌∷◌}
use Rattle.urb_sqlite.proofs.Common.{◌≡◌, ◌≢◌, ◌⊎◌}
use Rattle.std.specs.List.{filter_map}
use Rattle.sqlite_trees.proofs.ListLemmas.{flat_map_none}
use Rattle.sqlite.specs.Ops.{unary}
use Rattle.sqlite.specs.Edit.{edit_of, edited}
use Rattle.sqlite.specs.Cast.{cast}
use Rattle.sqlite.specs.Rowids.TheVariants.{Chosen}
use Rattle.sqlite.specs.Rows.{Written}
use Rattle.sqlite.specs.Tree.{Trees}
use Rattle.sqlite.specs.State.{State}
use Rattle.sqlite.proofs.Callers.{one_step, runs_as, statement_of}
use Rattle.sqlite_schema.specs.declared.schema.Schema.{Schema}
use Rattle.sqlite_schema.specs.declared.schema.Table.{Table}
use Rattle.sqlite_schema.specs.declared.schema.Reference.{Reference}
use Rattle.sqlite_schema.specs.declared.schema.Keys.{Keys}
use Rattle.sqlite_schema.specs.Rules.{ParentKey, parent_key}
use Rattle.sqlite_rules.specs.declared.action.Deed.{Deed}
use Rattle.sqlite_rules.specs.Action.{deed_for, work_by, work_for, works}
use Rattle.urb_sqlite.specs.internal.TreeRows.{kept_row}
use Rattle.urb_sqlite.proofs.StatementTexts.{Puts, insert_is, terms}

either : (b : Bool) (x : Value) → cond b x x ≡ x
either true x = refl
either false x = refl

cast_int : (n : ℕ) → cast Integer (Int (pos n)) ≡ Int (pos n)
unfolding unary
cast_int n = either _ (Int (pos n))

cast_null : cast Integer Null ≡ Null
unfolding unary
cast_null = either _ Null

-- a part that gave a value didn't stop early
pub went : {B E R : Type 0} {b : B} {Stops : E → Type 0}
    → ((stop : E) × Stops stop × (Ok b ≡ Err stop)) ⊎ R → R
went (inl stopped) = absurd (let e = stopped.2 in cc)
went (inr on) = on

-- two `Ok` that are equal have the same value
pub same_value : {B E : Type 0} {a b : B} → ◌≡◌ {A = Result B E} (Ok a) (Ok b) → a ≡ b
same_value e = cc

-- An INSERT changes the rows of its own table only, and outside a transaction it is committed.
pub record IsPut (old new : State) (tree : ℕ) (row : Row) : Type 0 where
  pub schema : new.now.schema ≡ old.now.schema
  pub rows : new.now.trees tree ≡ put_row row (old.now.trees tree)
  pub others : AllByRecursion (λ (t : Table). t.tree ≢ tree
      → new.now.trees t.tree ≡ old.now.trees t.tree) old.now.schema.tables
  pub committed : old.in_transaction ≡ false → new.now ≡ new.committed
  pub mode : new.in_transaction ≡ old.in_transaction
  pub was_open : IsTrue old.is_open
  pub is_open : IsTrue new.is_open

-- ---- no foreign key acts where nothing is taken out

never : {A : Type 0} (b : Bool) (x : Option A) → cond (b && false) x None ≡ None
never true x = refl
never false x = refl

acts_on_none : (depth tree : ℕ) (child : Table) (ref : Reference) (deed : Option Deed)
    (key : Option ParentKey) → work_by depth tree [] child ref deed key ≡ None
acts_on_none depth tree child ref None key = refl
acts_on_none depth tree child ref (Some deed) None = refl
acts_on_none depth tree child ref (Some deed) (Some key) = never (key.0 == tree) _

no_work_for : (schema : Schema) (keys : Keys) (depth tree : ℕ) (news : List Row) (child : Table)
    (refs : List Reference) → filter_map (work_for schema keys depth tree [] news child) refs ≡ []
no_work_for schema keys depth tree news child [] = refl
no_work_for schema keys depth tree news child (ref ∷ refs) =
    rw (acts_on_none depth tree child ref (deed_for keys (length news == 0) ref)
    (parent_key schema.tables ref)) (no_work_for schema keys depth tree news child refs)

no_work : (schema : Schema) (keys : Keys) (depth tree : ℕ) (news : List Row)
    → works schema keys depth tree [] news ≡ []
no_work schema keys depth tree news =
    flat_map_none _ (λ child. no_work_for schema keys depth tree news child child.references)
    schema.tables

-- a database after the INSERT
pub record HasPut (old after : Database) (tree : ℕ) (row : Row) : Type 0 where
  pub schema : after.schema ≡ old.schema
  pub rows : after.trees tree ≡ put_row row (old.trees tree)
  pub others : AllByRecursion (λ (t : Table). t.tree ≢ tree → after.trees t.tree ≡ old.trees t.tree)
      old.schema.tables

-- the row of the INSERT's parameters is put into the table's tree, and no other table of the schema
-- is touched
does_put : (old : State) (name : List ℕ) (tree at place kind sender seq client number : ℕ)
    (payload : List ℕ) (text : List ℕ) (tally : Tally) (after : Database)
    → slice_get old.now.schema.tables at ≡ Some (record_table name tree)
    → Does old.step_limit (mode_of old)
    (columns_of place kind sender seq client number payload) old.now text None
    (Insert at (Values terms 8)) (Ok (tally, after))
    → HasPut old.now after tree (kept_row place kind sender seq client number payload)
does_put old name tree at place kind sender seq client number payload text tally after there
    done_at =
    let params = columns_of place kind sender seq client number payload in
    let row = kept_row place kind sender seq client number payload in
    let db = old.now.trees in
    let schema = old.now.schema in
    let table = record_table name tree in
    let command = Insert at (Values terms 8) in
    let done =
    went (subst (λ (o : Option Table).
    AtPlace (λ table. OnRows (record {
      limit = old.step_limit;
      keys = Enforced;
      schema = schema;
      table = table;
      params =
          params;
    }) (mode_of old) None command db) o (Ok (tally, after))) there done_at) in
    let now = ap (λ (p : Tally × Database). p.1) (same_value (went (went done.2).2).2) in
    let given = went done.1 in
    let written = went (went given.2).2 in
    let counted = went written.2 in
    let trees : done.0.trees ≡ written.0 =
    ap (λ (it : Written). it.trees) (same_value counted.2) ∙ same_value counted.1 in
    let all : after.trees ≡ written.0 = ap (λ (d : Database). d.trees) now ∙ trees in
    let edit = edit_of db table [] Chosen 0 given.0 in
    let applied =
    one_step schema Enforced db written.0 edit
    (no_work schema Enforced 0 edit.table.tree edit.news) written.1 in
    let put : edited db edit ≡ put_row row (db tree) =
    ap (λ all. edited db (edit_of db table [] Chosen 0 all)) given.1.1
    ∙ rw (
      cast_null,
      cast_int place,
      cast_int kind,
      cast_int sender,
      cast_int seq,
      cast_int client,
      cast_int number,
    ) refl in
    record {
      schema = ap (λ (d : Database). d.schema) now;
      rows = ap (λ (t : Trees). t tree) all ∙ applied.rows ∙ put;
      others =
          subst (λ (next : Trees). AllByRecursion
          (λ (t : Table). t.tree ≢ tree → next t.tree ≡ db t.tree) schema.tables)
          (sym all) applied.tables;
    }

module _ (text name : List ℕ) (parsed : Puts text name) where
  -- An INSERT that succeeds puts its row into its table, and no other table changes.
  pub inserts : (old new : State) (place kind sender seq client number : ℕ) (payload : List ℕ)
      (count : ℕ) → HasTable old.now.schema name
      → Executes text (columns_of place kind sender seq client number payload) old new (Ok count)
      → IsPut old new (tree_of old.now.schema name)
      (kept_row place kind sender seq client number payload)
  inserts old new place kind sender seq client number payload count has h =
      let params = columns_of place kind sender seq client number payload in
      let s = old.now.schema in
      let it = insert_is s text name has parsed in
      let w =
      runs_as text params old new s refl
      (Insert it.at (Values terms 8)) it.command_is it.plain count h in
      let put =
      does_put old name (tree_of s name) it.at place kind sender seq client number payload
      (statement_of text (understood s text)) w.tally new.now it.there w.changed in
      record {
        schema = put.schema;
        rows = put.rows;
        others = put.others;
        committed = λ auto. sym (rw auto at w.shown.committed_is);
        mode = w.shown.mode;
        was_open = w.shown.was_open;
        is_open = w.shown.is_open;
      }

  -- what the INSERT commits is a database with that row
  pub commits_put : (old : State) (place kind sender seq client number : ℕ) (payload : List ℕ)
      (db : Trees) → HasTable old.now.schema name
      → CommitsBy text (columns_of place kind sender seq client number payload) old db
      → IsSound old.now.schema db × HasPut old.now (record { schema = old.now.schema; trees = db })
      (tree_of old.now.schema name) (kept_row place kind sender seq client number payload)
  unfolding CommitsBy
  commits_put old place kind sender seq client number payload db has h =
      let c = h.0 in
      let params = columns_of place kind sender seq client number payload in
      let s = old.now.schema in
      let row = kept_row place kind sender seq client number payload in
      let it = insert_is s text name has parsed in
      let known : Ok c ≡ understood s text = sym h.1.is in
      let bare = subst IsPlain (sym known) it.plain in
      let is : c.command ≡ Insert it.at (Values terms 8) = ap command_of known ∙ it.command_is in
      elim (rw (bare.0, bare.1, append-nil params, is) at h.2) [
        | inl (inl commit, same) ↦ absurd (let e = commit in cc)
        | inl (inr released, same) ↦ absurd (let e = released.2 in cc)
        | inr wrote ↦
            let put =
            does_put old name (tree_of s name) it.at place kind sender seq client number payload
            (text_of text c) wrote.1 wrote.2 it.there wrote.3 in
            let sound : IsSound s wrote.2.trees =
            subst (λ (k : Schema). IsSound k wrote.2.trees) put.schema wrote.4 in (
              subst (IsSound s) (sym wrote.5) sound,
              subst (λ (t : Trees). HasPut old.now (record { schema = s; trees = t })
                  (tree_of s name) row) (sym wrote.5)
                  (record { schema = refl; rows = put.rows; others = put.others }),
            )
      ]
