-- A group of three shows no world of four nodes.
use Rattle.std.proofs.Common.{ap, arith}
use Rattle.std.proofs.lemmas.Grind.{common_steps}
use Rattle.urb_names.specs.LabelsAndContents.{Limits}
use Rattle.urb_world.specs.Step.{step}
use Rattle.urb_world.specs.World.{started}
use Rattle.urb_world.specs.internal.Examples.{limits}
use Rattle.urb_step_examples.proofs.worked.delivered_messages.what_groups_follow.Goals as goal

pub returns-clause-not_with_other_nodes : goal.returns-clause-not_with_other_nodes
unfolding step
returns-clause-not_with_other_nodes c shows h =
    let n = ap (λ (l : Limits). l.n) (h (started (limits 4 10)) shows).size in
    grind (arith, common_steps, n)
