-- What is read rests on the rows of the two tables alone.
use Rattle.std.proofs.Common.{refl}
use Rattle.urb_sqlite.specs.RowReadings.{read_from}
use Rattle.urb_journal_examples.proofs.worked.row_readings.which_records_are_read.Goals as goal

pub returns-clause-both_of_a_journal : goal.returns-clause-both_of_a_journal
unfolding read_from
returns-clause-both_of_a_journal c d first second = rw (first, second) refl
