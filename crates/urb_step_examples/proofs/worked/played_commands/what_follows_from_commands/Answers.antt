-- A tick of node 0 isn't refused as busy.
use Rattle.urb_world.specs.Step.{step}
use Rattle.urb_step_examples.proofs.worked.played_commands.what_follows_from_commands.Goals as goal

pub returns-clause-no_other_refusal : goal.returns-clause-no_other_refusal
unfolding step
returns-clause-no_other_refusal c w shows h = let told = h.1.0.0 w shows in cc
