-- Where a stop leaves nothing, whatever it leaves has each property.
use Rattle.std.proofs.Common.{false, refl, true, ◌≡◌}
use Rattle.sqlite_catalog.specs.Listing.{IsSound}
use Rattle.sqlite_schema.specs.declared.schema.Schema.{Schema}
use Rattle.sqlite_trees.specs.Sound.{fits_kind, is_sound_list}
use Rattle.sqlite_value.specs.Order.{value_cmp}
use Rattle.urb_journal_examples.specs.internal.JournalValues.{no_database}
use Rattle.urb_journal_examples.proofs.worked.found_journals.what_is_found_again.Goals as goal

-- the list with a row without columns is no list of objects
unsound : (schema : Schema) → IsSound schema no_database → ⊥
unfolding is_sound_list fits_kind value_cmp
unsound schema sound = let loads : false ≡ true = sound.lists.listed.loads in absurd (cc)

pub returns-clause-no_shut_journal : goal.returns-clause-no_shut_journal
returns-clause-no_shut_journal c h =
    let shut = (h (λ db none. absurd none)).0.is_open in absurd (cc)

pub returns-clause-none_without_the_property : goal.returns-clause-none_without_the_property
returns-clause-none_without_the_property c h = (h (λ db none. absurd none)).1

pub returns-clause-anything_behind_no_journal : goal.returns-clause-anything_behind_no_journal
returns-clause-anything_behind_no_journal c h =
    let it = h no_database refl in absurd (unsound it.0.schema it.0.sound)
