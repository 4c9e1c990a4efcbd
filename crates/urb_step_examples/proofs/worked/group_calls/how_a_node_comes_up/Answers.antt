-- A ready node can't come up.
use Rattle.urb_world.specs.Step.{step}
use Rattle.urb_world.specs.World.{started}
use Rattle.urb_world.specs.internal.Examples.{limits}
use Rattle.urb_step_examples.proofs.worked.group_calls.how_a_node_comes_up.Goals as goal

pub returns-clause-not_a_ready_node : goal.returns-clause-not_a_ready_node
unfolding step
returns-clause-not_a_ready_node c shows h =
    let told = (h (started (limits 4 10)) shows).told in cc
