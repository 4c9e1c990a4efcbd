-- What is committed has the table, and its trees are a database.
use Rattle.std.proofs.Common.{List, [], ap, false, inl, inr, length, refl, subst, sym}
use Rattle.std.proofs.Common.{true}
use Rattle.std.proofs.Common.{◌∷◌, ◌≡◌}
use Rattle.std.specs.List.{AllZip}
use Rattle.sqlite.specs.Effect.{Database}
use Rattle.sqlite_catalog.specs.Listing.{IsSound, IsTableRow}
use Rattle.sqlite_schema.specs.declared.schema.Index.{Index}
use Rattle.sqlite_schema.specs.declared.schema.Schema.{Schema}
use Rattle.sqlite_schema.specs.declared.schema.Table.{Table}
use Rattle.sqlite_schema.specs.declared.schema.View.{View}
use Rattle.sqlite_trees.specs.Sound.{fits_kind, is_sound_list}
use Rattle.sqlite_trees.specs.Tree.{Trees, no_trees}
use Rattle.sqlite_value.specs.Order.{value_cmp}
use Rattle.urb_sqlite.specs.JournalTables.{HasTable, journal_name}
use Rattle.urb_journal_examples.specs.internal.JournalValues.{no_database}
use Rattle.urb_journal_examples.proofs.worked.open_journals.what_is_committed.Goals as goal

-- what lists no rows has no table
no-table : (tables : List Table) (indexes : List Index) (views : List View)
    → AllZip IsTableRow [] tables
    → HasTable (record { tables = tables; indexes = indexes; views = views }) journal_name → ⊥
no-table [] indexes views listed has = let none = has.there in absurd (cc)
no-table (t ∷ tables) indexes views listed has = absurd listed

unlisted : (schema : Schema) → IsSound schema no_trees → HasTable schema journal_name → ⊥
unlisted schema sound has =
    no-table schema.tables schema.indexes schema.views sound.lists.listed.tables has

-- the list with a row without columns is no list of objects
unsound : (schema : Schema) → IsSound schema no_database → ⊥
unfolding is_sound_list fits_kind value_cmp
unsound schema sound = let loads : false ≡ true = sound.lists.listed.loads in absurd (cc)

pub returns-clause-not_what_was_shut : goal.returns-clause-not_what_was_shut
returns-clause-not_what_was_shut c h = let shut = (h refl).0 in absurd (cc)

pub returns-clause-not_without_the_table : goal.returns-clause-not_without_the_table
returns-clause-not_without_the_table c h = let none = (h refl).1.has.there in absurd (cc)

pub returns-clause-whatever_is_shut : goal.returns-clause-whatever_is_shut
returns-clause-whatever_is_shut c shut = absurd (cc)

pub returns-clause-no_trees_that_are_no_database : goal.returns-clause-no_trees_that_are_no_database
returns-clause-no_trees_that_are_no_database c h =
    unsound h.after.schema
    (subst (λ (db : Trees). IsSound h.after.schema db) (sym h.is) h.sound)

pub returns-clause-no_trees_without_the_table : goal.returns-clause-no_trees_without_the_table
returns-clause-no_trees_without_the_table c h =
    unlisted h.after.schema
    (subst (λ (db : Trees). IsSound h.after.schema db) (sym h.is) h.sound) h.adds.has

pub returns-clause-nothing_at_a_bad_row : goal.returns-clause-nothing_at_a_bad_row
returns-clause-nothing_at_a_bad_row c h = elim h.commit [
  | inl keeps ↦ let tables = ap (λ (d : Database). length d.schema.tables) (keeps.committed refl) in
      absurd (cc)
  | inr committed ↦ let bad = committed.1 in absurd (cc)
]
