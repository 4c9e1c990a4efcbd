-- A group with a record more, or without a world, is not stocked.
use Rattle.std.proofs.Common.{List, [], ap, arith, false, length, refl, subst, ⊎_elim, ◌∷◌, ◌≡◌}
use Rattle.urb_names.specs.Names.{name}
use Rattle.urb_stable.specs.DeliveredLogs.{log}
use Rattle.urb_stable.specs.Entries.{Entry}
use Rattle.urb_stable.specs.MemoryStores.{empty_memory}
use Rattle.urb_node.specs.Part.{State}
use Rattle.urb_group.specs.GroupViews.{Shows}
use Rattle.urb_world.specs.World.{World, stored}
use Rattle.urb_node.specs.Steps.{is_down}
use Rattle.urb_step_examples.specs.internal.GroupExamples.{of_no_world}
use Rattle.urb_step_examples.specs.internal.StoreExamples.{one_stored}
use Rattle.urb_step_examples.proofs.worked.group_stores.stocked_clusters.Goals as goal

-- no node has delivered a name and stored no record
none : (records : List Entry) → 0 ≡ length records → name 1 1 ∷ [] ≡ log records → ⊥
none [] count delivered = absurd (cc)
none (r ∷ rs) count delivered = absurd (cc)

no-world : (w : World) → Shows (of_no_world 3) w → ⊥
no-world w shows = none (w.node 1).records (shows.nodes 1).count (shows.nodes 1).log

pub returns-clause-not_of_no_world : goal.returns-clause-not_of_no_world
returns-clause-not_of_no_world c h = no-world h.world h.shows

pub returns-clause-not_with_a_record_more : goal.returns-clause-not_with_a_record_more
returns-clause-not_with_a_record_more c h =
    let store = h.stores 0 one_stored refl in
    let up =
    subst (λ (state : State). is_down state ≡ false) (h.shows.nodes 1).state refl in
    let same = ap (λ (records : List Entry). length records) (store.up tt up).0 in
    let count = (h.shows.nodes 1).count in absurd (omega (arith, same, count))

pub returns-clause-not_secured_by_a_dishonest_store :
    goal.returns-clause-not_secured_by_a_dishonest_store
returns-clause-not_secured_by_a_dishonest_store c h =
    ⊎_elim (λ honest. honest) (λ shut. shut.0) ((h.lasting 0 empty_memory refl).known tt)
