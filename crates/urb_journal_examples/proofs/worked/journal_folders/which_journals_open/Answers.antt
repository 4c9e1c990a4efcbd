-- The first journal is that of node 1.
use Rattle.std.proofs.Common.{arith, refl, ◌≡◌}
use Rattle.urb_journal_examples.proofs.worked.journal_folders.which_journals_open.Goals as goal

pub returns-clause-not_from_node_2_on : goal.returns-clause-not_from_node_2_on
returns-clause-not_from_node_2_on c h = let node : 2 ≡ 1 = h 0 2 refl in omega (arith, node)
