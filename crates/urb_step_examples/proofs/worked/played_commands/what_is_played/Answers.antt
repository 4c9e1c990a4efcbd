-- A tick of node 0 isn't refused as busy.
use Rattle.std.proofs.Common.{List, [], subst, ◌∷◌}
use Rattle.urb_world.specs.Step.{Tick, step}
use Rattle.urb_world.specs.MemoryStores.{in_memory}
use Rattle.urb_group.specs.PlayedCommands.{Follows}
use Rattle.urb_group.specs.declared.command.Command.TheVariants as command
use Rattle.urb_group.specs.declared.reply.Reply.{Reply}
use Rattle.urb_step_examples.specs.internal.GroupExamples.{new_cluster}
use Rattle.urb_step_examples.proofs.worked.played_commands.what_is_played.Goals as goal

pub returns-clause-no_other_reply : goal.returns-clause-no_other_reply
unfolding step
returns-clause-no_other_reply c w replies shows items h =
    let follows =
    subst (λ (rs : List (Reply (Unit {0}))). Follows (in_memory (Unit {0})) (new_cluster 4)
    (command.Tick 0 ∷ []) rs (new_cluster 4)) items h.0 in
    let told = follows.1.0.0 w shows in cc
