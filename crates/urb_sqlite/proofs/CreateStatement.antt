-- What CREATE TABLE IF NOT EXISTS does to a database that lacks the table, and to one that has it.
use Rattle.urb_sqlite.proofs.Common.{AddsTable, AllByRecursion, Bool, CommitsBy, Database, Does}
use Rattle.urb_sqlite.proofs.Common.{Executes, ExecutesIn, HasTable, IsLonger, IsMade, IsSound}
use Rattle.urb_sqlite.proofs.Common.{IsUnchanged, Lacks, List, None, Ok, Option, Row, Some, Tally}
use Rattle.urb_sqlite.proofs.Common.{[], ap, append-nil, append_assoc, cases_Bool, create_text}
use Rattle.urb_sqlite.proofs.Common.{everything, false, get_stays, has_table, index_named, inl, inr}
use Rattle.urb_sqlite.proofs.Common.{is_journal, is_some, journal_name, length, mode_of, next_tree}
use Rattle.urb_sqlite.proofs.Common.{option_map, record_table, refl, same_name, second_name}
use Rattle.urb_sqlite.proofs.Common.{slice_get, subst, sym, table_defined_by, table_named, table_of}
use Rattle.urb_sqlite.proofs.Common.{tree_of, true, view_named, ℕ, ◌++◌, ◌+◌, ◌<◌, ◌||◌, ◌∙◌, ◌∷◌}
use Rattle.urb_sqlite.proofs.Common.{◌≡◌, ◌⊎◌}
use Rattle.std.proofs.lemmas.Bool.{true≢false}
use Rattle.sqlite.specs.Tree.{Trees}
use Rattle.sqlite.specs.Table.{Table}
use Rattle.sqlite.specs.Schema.{Schema}
use Rattle.sqlite.specs.Command.TheVariants.{CreateTable}
use Rattle.sqlite_catalog.specs.Calls.{CreatesTable}
use Rattle.sqlite_catalog.specs.Change.{is_used}
use Rattle.sqlite.specs.Does.{lacks_sequence, sequence_text}
use Rattle.sqlite.specs.State.{State}
use Rattle.urb_sqlite.specs.OpenJournal.{AddsOne}
use Rattle.urb_sqlite.proofs.InsertStatement.{same_value, went}
use Rattle.urb_sqlite.proofs.StatementTexts.{Makes}
use Rattle.urb_sqlite.proofs.AnySchema.{create_is}
use Rattle.urb_sqlite.proofs.AddedTables.{all_at, has_behind, has_new, kept_rows, lacks_behind}
use Rattle.urb_sqlite.proofs.AddedTables.{low_trees, slice_last}

no_other : (o : Option ℕ) (b c : Bool) → ((is_some o || b) || c) ≡ false → o ≡ None
no_other None b c h = refl
no_other (Some x) b c h = absurd (let n = h in cc)

-- the table that a CREATE adds
abbrev added : Database → Table → Table
added d table = record table { tree = next_tree d.schema }

behind : (d after : Database) (text : List ℕ)
    (made : CreatesTable d.schema text d.trees after.schema after.trees)
    → after.schema.tables ≡ d.schema.tables ++ added d made.table ∷ []
behind d after text made = ap (λ (s : Schema). s.tables) made.is

-- tables that are there stay, with their rows
keeps_one : (d after : Database) (text : List ℕ)
    → CreatesTable d.schema text d.trees after.schema after.trees → (other : List ℕ)
    → HasTable d.schema other
    → HasTable after.schema other
    × (after.trees (tree_of after.schema other) ≡ d.trees (tree_of d.schema other))
keeps_one d after text made other has =
    let it =
    has_behind d.schema after.schema (added d made.table)
    (behind d after text made) other has in
    (it.0, ap after.trees it.1 ∙ kept_rows d.schema d.trees after.trees other has made.others)

-- each of these keeps its rows over both changes
rows_twice : (a b c : Trees) (ts more : List Table)
    → AllByRecursion (λ (t : Table). b t.tree ≡ a t.tree) ts
    → AllByRecursion (λ (t : Table). c t.tree ≡ b t.tree) (ts ++ more)
    → AllByRecursion (λ (t : Table). c t.tree ≡ a t.tree) ts
rows_twice a b c [] more one two = tt
rows_twice a b c (t ∷ ts) more one two = (two.0 ∙ one.0, rows_twice a b c ts more one.1 two.1)

longer_one : (d after : Database) (text : List ℕ)
    → CreatesTable d.schema text d.trees after.schema after.trees → IsLonger d after
longer_one d after text made =
    record { more = added d made.table ∷ []; tables = behind d after text made; rows = made.others }

-- Tables that were added twice are added after the first ones, which keep their rows.
pub longer_then : (a b c : Database) → IsLonger a b → IsLonger b c → IsLonger a c
longer_then a b c one two = record {
  more = one.more ++ two.more;
  tables =
      two.tables ∙ ap (λ (ts : List Table). ts ++ two.more) one.tables
      ∙ append_assoc a.schema.tables one.more two.more;
  rows =
      rows_twice a.trees b.trees c.trees a.schema.tables one.more one.rows
      (subst (AllByRecursion (λ (t : Table). c.trees t.tree ≡ b.trees t.tree)) one.tables two.rows);
}

adds_one : (d after : Database) (text name : List ℕ) → Makes text name
    → CreatesTable d.schema text d.trees after.schema after.trees → next_tree d.schema < 65536
    → AddsTable d after name
adds_one d after text name parsed made low =
    let both : Ok made.table ≡ Ok (record_table name 0) = sym made.defined ∙ parsed.defines in
    let same : made.table ≡ record_table name 0 = cc in
    let is : added d made.table ≡ record_table name (next_tree d.schema) = ap (added d) same in
    let none : table_named d.schema name ≡ None =
    no_other (table_named d.schema name) (is_some (index_named d.schema name))
    (is_some (view_named d.schema name))
    (ap (λ (t : Table). is_used d.schema t.name) (sym same) ∙ made.free) in
    let it =
    has_new d.schema after.schema (added d made.table)
    (behind d after text made) name is none parsed.itself low in
    record {
      has = it.0;
      empty = ap after.trees it.1 ∙ made.empty;
      longer =
          longer_one d after text made;
      keeps = keeps_one d after text made;
    }

adds_then : (d mid after : Database) (text name : List ℕ) → AddsTable d mid name
    → CreatesTable mid.schema text mid.trees after.schema after.trees → AddsTable d after name
adds_then d mid after text name first made =
    let kept = keeps_one mid after text made name first.has in
    record {
      has = kept.0;
      empty = kept.1 ∙ first.empty;
      longer = longer_then d mid after first.longer (longer_one mid after text made);
      keeps = λ other has.
          let one = first.keeps other has in
          let two = keeps_one mid after text made other one.0 in
          (two.0, two.1 ∙ one.1);
    }

-- the new table's tree is low, as each tree of a sound database is
low_new : (d mid after : Database) (table : Table) (rest : List Table)
    → mid.schema.tables ≡ d.schema.tables ++ added d table ∷ []
    → after.schema.tables ≡ mid.schema.tables ++ rest → IsSound after.schema after.trees
    → next_tree d.schema < 65536
low_new d mid after table rest first second sound =
    let there : slice_get mid.schema.tables (length d.schema.tables) ≡ Some (added d table) =
    ap (λ ts. slice_get ts (length d.schema.tables)) first
    ∙ slice_last d.schema.tables (added d table) in
    let here : slice_get after.schema.tables (length d.schema.tables) ≡ Some (added d table) =
    ap (λ ts. slice_get ts (length d.schema.tables)) second
    ∙ get_stays mid.schema.tables rest _ _ there in
    all_at (λ (t : Table). t.tree < 65536) after.schema.tables _ (added d table)
    (low_trees after.schema after.trees sound) here

does_create : (old : State) (text name : List ℕ) (params : Row) (tally : Tally) (after : Database)
    → Makes text name
    → Does old.step_limit (mode_of old) params old.now text None CreateTable (Ok (tally, after))
    → IsSound after.schema after.trees → AddsTable old.now after name
does_create old text name params tally after parsed changed sound =
    let all = went changed in
    let first = went all.1 in
    let mid = first.0 in
    let made = first.1 in
    let now : after ≡ all.0 = ap (λ (p : Tally × Database). p.1) (same_value all.2) in
    elim (cases_Bool (lacks_sequence mid.schema)) [
      | inl lacks ↦
          let more : CreatesTable mid.schema sequence_text mid.trees all.0.schema all.0.trees =
          rw lacks at first.2 in
          let more_after : CreatesTable mid.schema sequence_text mid.trees after.schema
          after.trees = subst (λ (d : Database).
          CreatesTable mid.schema sequence_text mid.trees d.schema d.trees) (sym now) more in
          let low =
          low_new old.now mid after made.table _ (behind old.now mid text made)
          (behind mid after sequence_text more_after) sound in
          adds_then old.now mid after sequence_text name
          (adds_one old.now mid text name parsed made low) more_after
      | inr plain ↦
          let is : after ≡ mid = now ∙ same_value (rw plain at first.2) in
          let made_after : CreatesTable old.now.schema text old.now.trees after.schema after.trees =
          subst (λ (d : Database). CreatesTable old.now.schema text old.now.trees d.schema
          d.trees) (sym is) made in
          let low =
          low_new old.now after after made_after.table [] (behind old.now after text made_after)
          (sym (append-nil after.schema.tables)) sound in
          adds_one old.now after text name parsed made_after low
    ]

lacks_shape : (s : Schema) (name : List ℕ) → Lacks s name → has_table name s ≡ false
lacks_shape s name none =
    ap (λ (o : Option Table). Rattle.std.specs.Prelude.unwrap_or
    (option_map (is_journal name) o) false) none

-- ---- the second table stays absent behind the first

-- the table that a text defines has another name
record IsApart (text name : List ℕ) : Type 0 where
  table : Table
  defined : table_defined_by text ≡ Ok table
  other : same_name table.name name ≡ false

first_apart : IsApart create_text second_name
unfolding everything same_name
first_apart = record { table = _; defined = refl; other = refl }

sequence_apart : IsApart sequence_text second_name
unfolding everything same_name
sequence_apart = record { table = _; defined = refl; other = refl }

lacks_then : (d after : Database) (text : List ℕ) → IsApart text second_name
    → CreatesTable d.schema text d.trees after.schema after.trees → Lacks d.schema second_name
    → Lacks after.schema second_name
lacks_then d after text apart made lacks =
    let both : Ok made.table ≡ Ok apart.table = sym made.defined ∙ apart.defined in
    let same : made.table ≡ apart.table = cc in
    lacks_behind d.schema after.schema (added d made.table) (behind d after text made) second_name
    (ap (λ (t : Table). same_name t.name second_name) same ∙ apart.other) lacks

does_first : (old : State) (params : Row) (tally : Tally) (after : Database)
    → Lacks old.now.schema second_name
    → Does old.step_limit (mode_of old) params old.now create_text None CreateTable
    (Ok (tally, after)) → Lacks after.schema second_name
does_first old params tally after lacks changed =
    let all = went changed in
    let first = went all.1 in
    let mid = first.0 in
    let one = lacks_then old.now mid create_text first_apart first.1 lacks in
    let now : after ≡ all.0 = ap (λ (p : Tally × Database). p.1) (same_value all.2) in
    elim (cases_Bool (lacks_sequence mid.schema)) [
      | inl sequence ↦
          let more : CreatesTable mid.schema sequence_text mid.trees all.0.schema all.0.trees =
          rw sequence at first.2 in
          subst (λ (d : Database). Lacks d.schema second_name) (sym now)
          (lacks_then mid all.0 sequence_text sequence_apart more one)
      | inr plain ↦
          let is : after ≡ mid = now ∙ same_value (rw plain at first.2) in
          subst (λ (d : Database). Lacks d.schema second_name) (sym is) one
    ]

-- Whether or not the first table is made, the second one stays absent.
pub creates_apart : (old new : State) (count : ℕ) → Makes create_text journal_name
    → Lacks old.now.schema second_name → Executes create_text [] old new (Ok count)
    → Lacks new.now.schema second_name
unfolding ExecutesIn
creates_apart old new count parsed lacks h =
    let is = create_is create_text journal_name parsed old.now.schema h.0 h.1.is in
    elim is.comes_to [
      | inl none ↦
          let same : IsUnchanged old new = (rw (none, is.returning_is) at h.2).0 in
          ap (λ (d : Database). table_of d.schema second_name) same.0.now_is ∙ lacks
      | inr makes ↦
          let w = rw (makes, is.returning_is) at h.2 in
          does_first old [] w.tally new.now lacks
          (subst (λ t. Does old.step_limit (mode_of old) [] old.now t None CreateTable
          (Ok (w.tally, new.now))) is.whole w.changed)
    ]

module _ (text name : List ℕ) (parsed : Makes text name) where
  -- If the table was absent before and is there afterwards, it was made.
  pub creates : (old new : State) (count : ℕ) → Lacks old.now.schema name
      → has_table name new.now.schema ≡ true → Executes text [] old new (Ok count)
      → IsMade old new name
  unfolding ExecutesIn
  creates old new count lacks ready h =
      let is = create_is text name parsed old.now.schema h.0 h.1.is in
      elim is.comes_to [
        | inl none ↦
            let same : IsUnchanged old new = (rw (none, is.returning_is) at h.2).0 in
            absurd (true≢false (sym ready
            ∙ ap (λ (d : Database). has_table name d.schema) same.0.now_is
            ∙ lacks_shape old.now.schema name lacks))
        | inr makes ↦
            let w = rw (makes, is.returning_is) at h.2 in
            let changed =
            subst (λ t. Does old.step_limit (mode_of old) [] old.now t None CreateTable
            (Ok (w.tally, new.now))) is.whole w.changed in
            record {
              was_open = w.shown.was_open;
              is_open = w.shown.is_open;
              adds =
                  does_create old text name [] w.tally new.now parsed changed w.sound;
            }
      ]

  -- Whatever the schema is, nothing changes, or the table is made; outside a transaction it is then
  -- committed.
  pub creates_at_most : (old new : State) (count : ℕ) → Executes text [] old new (Ok count)
      → IsUnchanged old new ⊎ (IsMade old new name
      × (old.in_transaction ≡ false → new.committed ≡ new.now))
  unfolding ExecutesIn
  creates_at_most old new count h =
      let is = create_is text name parsed old.now.schema h.0 h.1.is in
      elim is.comes_to [
        | inl none ↦ (let same : IsUnchanged old new = (rw (none, is.returning_is) at h.2).0 in
            inl same)
        | inr makes ↦
            let w = rw (makes, is.returning_is) at h.2 in
            let changed =
            subst (λ t. Does old.step_limit (mode_of old) [] old.now t None CreateTable
            (Ok (w.tally, new.now))) is.whole w.changed in
            let made : IsMade old new name =
            record {
              was_open = w.shown.was_open;
              is_open = w.shown.is_open;
              adds =
                  does_create old text name [] w.tally new.now parsed changed w.sound;
            } in
            inr (made, λ auto. rw auto at w.shown.committed_is)
      ]

  -- If the table was there, the CREATE changes nothing.
  pub creates_nothing : (old new : State) (count : ℕ) → HasTable old.now.schema name
      → Executes text [] old new (Ok count) → IsUnchanged old new
  unfolding ExecutesIn
  creates_nothing old new count has h =
      let is = create_is text name parsed old.now.schema h.0 h.1.is in
      (rw (is.leaves has, is.returning_is) at h.2).0

  -- what a CREATE commits is the database with the table
  pub commits_one : (old : State) (db : Trees) → CommitsBy text [] old db → AddsOne old.now name db
  unfolding CommitsBy
  commits_one old db h =
      let is = create_is text name parsed old.now.schema h.0 h.1.is in
      elim is.comes_to [
        | inl none ↦ elim (rw (none, is.returning_is) at h.2) [
          | inl (inl commit, same) ↦ absurd (let e = commit in cc)
          | inl (inr released, same) ↦ absurd (let e = released.2 in cc)
          | inr wrote ↦ absurd (let e = wrote.3 in cc)
        ]
        | inr makes ↦ elim (rw (makes, is.returning_is) at h.2) [
          | inl (inl commit, same) ↦ absurd (let e = commit in cc)
          | inl (inr released, same) ↦ absurd (let e = released.2 in cc)
          | inr wrote ↦
              let changed =
              subst (λ t. Does old.step_limit (mode_of old) [] old.now t None CreateTable
              (Ok (wrote.1, wrote.2))) is.whole wrote.3 in
              record {
                after = wrote.2;
                adds =
                    does_create old text name [] wrote.1 wrote.2 parsed changed wrote.4;
                sound =
                    wrote.4;
                is = wrote.5;
              }
        ]
      ]
