-- A new node has nothing to send.
use Rattle.urb_world.specs.Step.{step}
use Rattle.urb_world.specs.World.{started}
use Rattle.urb_world.specs.internal.Examples.{limits}
use Rattle.urb_step_examples.proofs.worked.group_calls.what_a_tick_does.Goals as goal

pub returns-clause-it_sends_no_message_of_nobody : goal.returns-clause-it_sends_no_message_of_nobody
unfolding step
returns-clause-it_sends_no_message_of_nobody c shows h =
    let told = (h (started (limits 4 10)) shows).told in cc
