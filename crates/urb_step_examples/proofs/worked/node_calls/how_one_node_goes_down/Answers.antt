-- What is in doubt once a node is down.
use Rattle.std.proofs.Common.{[], refl}
use Rattle.urb_node.specs.Part.{opened_node}
use Rattle.urb_step_examples.specs.internal.NodeExamples.{storing_first}
use Rattle.urb_step_examples.proofs.worked.node_calls.how_one_node_goes_down.Goals as goal

pub returns-clause-not_without_a_doubt : goal.returns-clause-not_without_a_doubt
returns-clause-not_without_a_doubt c shows h = let state = (h.1 storing_first shows).1.state in cc

pub returns-clause-not_with_a_doubt_by_a_crash : goal.returns-clause-not_with_a_doubt_by_a_crash
returns-clause-not_with_a_doubt_by_a_crash c h =
    let state = (h.1 (opened_node 1 []) refl).1.state in cc
