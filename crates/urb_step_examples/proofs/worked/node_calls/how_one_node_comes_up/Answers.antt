-- A new node that is down comes up with no records alone.
use Rattle.urb_step_examples.specs.internal.NodeExamples.{fallen_node}
use Rattle.urb_step_examples.proofs.worked.node_calls.how_one_node_comes_up.Goals as goal

pub returns-clause-not_with_another_image : goal.returns-clause-not_with_another_image
returns-clause-not_with_another_image c shows h = let told = (h.1 fallen_node shows).0 in cc

pub returns-clause-not_refused_with_its_image : goal.returns-clause-not_refused_with_its_image
returns-clause-not_refused_with_its_image c shows h = let told = h.0 fallen_node shows in cc
