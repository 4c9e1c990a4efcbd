-- A tick of node 0 isn't refused as busy.
use Rattle.urb_world.specs.Step.{step}
use Rattle.urb_step_examples.proofs.worked.played_commands.how_playing_ends_early.Goals as goal

pub returns-clause-not_with_another_reply : goal.returns-clause-not_with_another_reply
unfolding step
returns-clause-not_with_another_reply c w shows h = let told = h.follows.1.0.0 w shows in cc
