-- A store gives what it has. A ready node asks for nothing.
use Rattle.std.proofs.Common.{Err, List, None, Ok, [], ◌∷◌}
use Rattle.std.specs.Prelude.{Result}
use Rattle.urb_stable.specs.Entries.{Entry}
use Rattle.urb_stable.specs.declared.stable.StoreFault.{StoreFault}
use Rattle.urb_node.specs.Replies.{Up}
use Rattle.urb_group.specs.GroupViews.{Shows}
use Rattle.urb_world.specs.Step.{step}
use Rattle.urb_world.specs.World.{started}
use Rattle.urb_world.specs.internal.Examples.{limits, pending}
use Rattle.urb_stable.specs.StableStorage.{IsRetrieved}
use Rattle.urb_group.specs.ClusterCalls.{Returns}
use Rattle.urb_step_examples.specs.internal.GroupExamples.{new_group}
use Rattle.urb_step_examples.proofs.worked.stored_drafts.what_a_store_gives.Goals as goal

-- what a store without records gave, if it then has one
more : (answer : Result (List Entry) StoreFault)
    → IsRetrieved [] None (pending 1 1 ∷ []) answer → ⊥
more (Ok records) h = let given = h.given.0 in let none = h.given.1 in absurd (cc)
more (Err fault) h = let same = h.failed in absurd (cc)

-- a ready node of a new group doesn't come up
ready : (answer : Result (List Entry) StoreFault) → Shows (new_group 4) (started (limits 4 10))
    → Returns (new_group 4) 1 answer (Up 1) (new_group 4) → ⊥
unfolding step
ready (Ok records) shows h = let told = (h (started (limits 4 10)) shows).told in absurd (cc)
ready (Err fault) shows h = let told = h.0 in absurd (cc)

pub returns-clause-no_record_that_it_lacked : goal.returns-clause-no_record_that_it_lacked
returns-clause-no_record_that_it_lacked c h = more h.answer (h.gives.retrieved tt)

pub returns-clause-nothing_to_a_ready_node : goal.returns-clause-nothing_to_a_ready_node
returns-clause-nothing_to_a_ready_node c shows h = ready h.answer shows h.returns

pub returns-clause-a_store_less : goal.returns-clause-a_store_less
returns-clause-a_store_less c h = let is = h.moves.is in absurd (cc)

pub returns-clause-nothing_to_a_ready_node_of_a_cluster :
    goal.returns-clause-nothing_to_a_ready_node_of_a_cluster
returns-clause-nothing_to_a_ready_node_of_a_cluster c shows h =
    ready h.reads.answer shows h.reads.returns
