-- A ready node can't come up.
use Rattle.urb_world.specs.Step.{step}
use Rattle.urb_world.specs.World.{started}
use Rattle.urb_world.specs.internal.Examples.{limits}
use Rattle.urb_step_examples.proofs.worked.cluster_events.what_a_restart_returns.Goals as goal

pub returns-clause-no_event_of_a_ready_node : goal.returns-clause-no_event_of_a_ready_node
unfolding step
returns-clause-no_event_of_a_ready_node c shows h =
    let told = (h (started (limits 4 10)) shows).told in cc
