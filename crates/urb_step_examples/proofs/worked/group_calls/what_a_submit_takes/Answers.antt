-- A new node drafts its first message, under its first name.
use Rattle.urb_world.specs.World.{started}
use Rattle.urb_world.specs.internal.Examples.{limits}
use Rattle.std.proofs.Common.{arith}
use Rattle.std.proofs.lemmas.Grind.{common_steps}
use Rattle.urb_world.specs.Step.{step}
use Rattle.urb_step_examples.proofs.worked.group_calls.what_a_submit_takes.Goals as goal

pub returns-clause-no_answer_to_a_new_message : goal.returns-clause-no_answer_to_a_new_message
unfolding step
returns-clause-no_answer_to_a_new_message c shows h =
    let told = (h (started (limits 4 10)) shows).told in cc

pub returns-clause-a_draft_under_another_name : goal.returns-clause-a_draft_under_another_name
unfolding step
returns-clause-a_draft_under_another_name c shows h =
    let told = (h.0 (started (limits 4 10)) shows).told in grind (arith, common_steps, told)
