-- The second record of node 1 may not follow nothing. A node that is down isn't ready.
use Rattle.std.proofs.Common.{None, ◌∙◌, ◌≡◌}
use Rattle.std.proofs.lemmas.Bool.{false≢true}
use Rattle.urb_foresight.specs.internal.ForesightExamples.{four_nodes}
use Rattle.urb_node.specs.Part.{Down, Ready, State}
use Rattle.urb_step_examples.proofs.worked.foreseen_calls.what_may_be_stored_next.Goals as goal

down-ready : ◌≡◌ {A = State} (Down None) Ready → ⊥
down-ready e = cc

pub returns-clause-not_the_second_record : goal.returns-clause-not_the_second_record
returns-clause-not_the_second_record c shows h = false≢true (h four_nodes shows).1.0.b

pub returns-clause-nothing_at_a_node_that_is_down :
    goal.returns-clause-nothing_at_a_node_that_is_down
returns-clause-nothing_at_a_node_that_is_down c w shows h =
    down-ready ((shows.nodes 1).state ∙ (h w shows).0)

pub returns-clause-not_the_second_record_of_a_draft :
    goal.returns-clause-not_the_second_record_of_a_draft
returns-clause-not_the_second_record_of_a_draft c shows h = false≢true (h four_nodes shows).1.0.b
