-- A ready node has no draft to which a receipt could belong.
use Rattle.urb_world.specs.Step.{step}
use Rattle.urb_world.specs.World.{started}
use Rattle.urb_world.specs.internal.Examples.{limits}
use Rattle.urb_step_examples.proofs.worked.group_calls.what_a_receipt_commits.Goals as goal

pub returns-clause-not_in_a_new_group : goal.returns-clause-not_in_a_new_group
unfolding step
returns-clause-not_in_a_new_group c shows h =
    let told = (h (started (limits 4 10)) shows).told in cc
