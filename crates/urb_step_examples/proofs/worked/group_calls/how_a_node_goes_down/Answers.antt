-- A ready node's store can't have failed.
use Rattle.urb_world.specs.Step.{step}
use Rattle.urb_world.specs.World.{started}
use Rattle.urb_world.specs.internal.Examples.{limits}
use Rattle.urb_step_examples.proofs.worked.group_calls.how_a_node_goes_down.Goals as goal

pub returns-clause-not_without_a_draft : goal.returns-clause-not_without_a_draft
unfolding step
returns-clause-not_without_a_draft c shows h =
    let told = (h (started (limits 4 10)) shows).told in cc
