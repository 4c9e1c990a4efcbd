-- A draft of a second message is never first.
use Rattle.std.proofs.Common.{refl}
use Rattle.urb_names.specs.Names.{name}
use Rattle.urb_step_examples.proofs.worked.kept_worlds.kept_nodes.Goals as goal

pub returns-clause-not_all_of_four : goal.returns-clause-not_all_of_four
returns-clause-not_all_of_four c h = let b = (h 1).state.0.b in absurd (cc)

pub returns-clause-not_with_a_count_of_nothing : goal.returns-clause-not_with_a_count_of_nothing
returns-clause-not_with_a_count_of_nothing c h =
    let e = (h.acks (name 1 1) 2 refl refl).1 in absurd (cc)

pub returns-clause-not_a_world_with_a_draft_of_the_second :
    goal.returns-clause-not_a_world_with_a_draft_of_the_second
returns-clause-not_a_world_with_a_draft_of_the_second c h =
    let b = (h.nodes 1).state.0.b in absurd (cc)
