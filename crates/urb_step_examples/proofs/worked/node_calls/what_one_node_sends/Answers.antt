-- A new node has nothing to send.
use Rattle.std.proofs.Common.{[]}
use Rattle.urb_node.specs.Part.{opened_node}
use Rattle.urb_step_examples.proofs.worked.node_calls.what_one_node_sends.Goals as goal

pub returns-clause-not_a_message_of_nobody : goal.returns-clause-not_a_message_of_nobody
returns-clause-not_a_message_of_nobody c shows h = let told = (h.1 (opened_node 1 []) shows).0 in cc
