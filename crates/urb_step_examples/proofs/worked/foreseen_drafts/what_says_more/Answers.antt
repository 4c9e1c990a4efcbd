-- A packet that is for another node, or that says what its source has stored, says no more.
use Rattle.std.proofs.Common.{sym, ◌≡◌}
use Rattle.std.proofs.lemmas.Bool.{false≢true}
use Rattle.urb_foresight.specs.internal.ForesightExamples.{four_nodes}
use Rattle.urb_step_examples.specs.internal.ForeseenExamples.{one_of_four}
use Rattle.urb_step_examples.proofs.worked.foreseen_drafts.what_says_more.Goals as goal

pub returns-clause-not_for_another_node : goal.returns-clause-not_for_another_node
returns-clause-not_for_another_node c shows reached h = false≢true (h four_nodes shows reached).0

pub returns-clause-not_a_stored_message : goal.returns-clause-not_a_stored_message
returns-clause-not_a_stored_message c shows reached h =
    false≢true (sym (h one_of_four shows reached).1)
