-- A node that is down isn't ready.
use Rattle.std.proofs.Common.{Some, ◌∙◌, ◌≡◌}
use Rattle.urb_node.specs.Part.{Down, Ready, State}
use Rattle.urb_stable.specs.Entries.{Entry}
use Rattle.urb_world.specs.internal.Examples.{pending}
use Rattle.urb_turn_examples.proofs.worked.held_records.nodes_ready_in_a_group.Goals as goal

down-ready : (doubt : Entry) → ◌≡◌ {A = State} (Down (Some doubt)) Ready → ⊥
down-ready doubt e = cc

pub returns-clause-not_one_that_is_down : goal.returns-clause-not_one_that_is_down
returns-clause-not_one_that_is_down c w shows h =
    down-ready (pending 1 1) ((shows.nodes 1).state ∙ h w shows)
