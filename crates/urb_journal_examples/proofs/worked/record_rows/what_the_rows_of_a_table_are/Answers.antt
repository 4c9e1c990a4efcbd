-- The rows are ordered by the numbers of their places.
use Rattle.std.proofs.Common.{pos, refl}
use Rattle.sqlite_value.proofs.OrderLemmas.{value_cmp-Int}
use Rattle.sqlite_schema.specs.Names.{same_name}
use Rattle.urb_journal_examples.proofs.worked.record_rows.what_the_rows_of_a_table_are.Goals as goal

pub returns-clause-in_a_tree : goal.returns-clause-in_a_tree
returns-clause-in_a_tree c = rw (value_cmp-Int (pos 2) (pos 1)) refl

pub returns-clause-by_name : goal.returns-clause-by_name
unfolding same_name
returns-clause-by_name c = rw (value_cmp-Int (pos 1) (pos 2)) refl
