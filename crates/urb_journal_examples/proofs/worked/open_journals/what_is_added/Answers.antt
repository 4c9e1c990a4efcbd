-- One table is added to none: it has no rows, and there was no other table.
use Rattle.std.proofs.Common.{[], refl, ◌∷◌}
use Rattle.sqlite_schema.specs.Names.{same_name}
use Rattle.urb_journal_examples.specs.internal.JournalValues.{first_table}
use Rattle.urb_journal_examples.proofs.worked.open_journals.what_is_added.Goals as goal

pub returns-clause-a_table : goal.returns-clause-a_table
unfolding same_name
returns-clause-a_table c = record {
  has = record { there = refl; alone = refl; stored = refl };
  empty = refl;
  longer = record { more = first_table ∷ []; tables = refl; rows = tt };
  keeps = λ other has. absurd (let there = has.there in cc);
}
