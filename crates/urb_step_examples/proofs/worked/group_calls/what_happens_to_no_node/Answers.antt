-- The reply to an event of node 0 is that there is no such node.
use Rattle.urb_world.specs.Step.{step}
use Rattle.urb_step_examples.proofs.worked.group_calls.what_happens_to_no_node.Goals as goal

pub returns-clause-another_reply : goal.returns-clause-another_reply
unfolding step
returns-clause-another_reply c w shows h = let told = (h w shows).told in cc

pub returns-clause-another_refusal : goal.returns-clause-another_refusal
unfolding step
returns-clause-another_refusal c w shows h = let told = h.0 w shows in cc
