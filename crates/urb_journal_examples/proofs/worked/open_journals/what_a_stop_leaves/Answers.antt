-- Where no tree has rows, the tables have no rows.
use Rattle.std.proofs.Common.{List, [], false, inl, inr, nat_le, refl, ℕ, ◌++◌, ◌^◌, ◌∷◌, ◌≡◌}
use Rattle.std.proofs.Common.{◌⊎◌, ap, map, sym, ◌∙◌}
use Rattle.sqlite.specs.Effect.{Database}
use Rattle.urb_stable.specs.Entries.{Entry}
use Rattle.urb_sqlite.specs.JournalTables.{HasTable, Lacks, journal_name, second_name, tree_of}
use Rattle.urb_sqlite.specs.OpenJournal.{database_of}
use Rattle.urb_sqlite.specs.RecordRows.{columns_in, rows_of, table_rows}
use Rattle.urb_world.specs.internal.Examples.{pending}
use Rattle.urb_journal_examples.proofs.worked.open_journals.what_a_stop_leaves.Goals as goal

no-rows-of : (d : Database) (name : List ℕ)
    → ((tree : ℕ) → nat_le (2 ^ 31) tree ≡ false → d.trees tree ≡ [])
    → HasTable d.schema name ⊎ Lacks d.schema name → table_rows d name ≡ []
no-rows-of d name none (inl has) = rw (has.there, none (tree_of d.schema name) has.stored) refl
no-rows-of d name none (inr lacks) = rw lacks refl

no-records : (place : ℕ) (records first second : List Entry) → records ≡ pending 1 1 ∷ []
    → records ≡ first ++ second → [] ≡ rows_of 1 first → [] ≡ rows_of place second → ⊥
no-records place records [] [] is whole one two = absurd (cc)
no-records place records [] (r ∷ rs) is whole one two = absurd (cc)
no-records place records (r ∷ rs) second is whole one two = absurd (cc)

pub returns-clause-none_without_the_property : goal.returns-clause-none_without_the_property
returns-clause-none_without_the_property c db h = (h db refl).3

pub returns-clause-no_record_without_a_row : goal.returns-clause-no_record_without_a_row
returns-clause-no_record_without_a_row c db none h =
    let it = h db refl in
    let d : Database = database_of it.0 in
    let one : [] ≡ rows_of 1 it.2.first =
    ap (map columns_in) (sym (no-rows-of d journal_name none (inl it.0.has.0)))
    ∙ it.2.in_first.spelled in
    let two = ap (map columns_in) (sym (no-rows-of d second_name none it.0.has.1))
    ∙ it.2.in_second.spelled in
    no-records _ it.1 it.2.first it.2.second it.3 it.2.whole one two

pub returns-clause-anything_of_a_shut_journal : goal.returns-clause-anything_of_a_shut_journal
returns-clause-anything_of_a_shut_journal c h = absurd (let shut = h.is_open in cc)
