-- A cluster goes on with what its stores held, and with what was delivered.
use Rattle.std.proofs.Common.{List, [], ap, arith, length, refl, ℕ, ◌∷◌, ◌≡◌}
use Rattle.urb_names.specs.Names.{name}
use Rattle.urb_stable.specs.DeliveredLogs.{log}
use Rattle.urb_stable.specs.Entries.{Entry}
use Rattle.urb_group.specs.GroupViews.{Shows}
use Rattle.urb_world.specs.World.{World, image_of, stored}
use Rattle.urb_world.specs.MemoryStores.{in_memory}
use Rattle.urb_world.specs.internal.Examples.{pending}
use Rattle.urb_group.specs.StoreContents.{AreChosen}
use Rattle.urb_step_examples.specs.internal.GroupExamples.{of_no_world}
use Rattle.urb_step_examples.specs.internal.StoreExamples.{one_stored}
use Rattle.urb_step_examples.proofs.worked.cluster_openings.how_a_cluster_goes_on.Goals as goal

-- no node has delivered a name and stored no record
none : (records : List Entry) → 0 ≡ length records → name 1 1 ∷ [] ≡ log records → ⊥
none [] count delivered = absurd (cc)
none (r ∷ rs) count delivered = absurd (cc)

no-world : (n : ℕ) (w : World) → Shows (of_no_world n) w → ⊥
no-world n w shows = none (w.node 1).records (shows.nodes 1).count (shows.nodes 1).log

-- an image of a store with a record isn't empty
kept : (images : List (List Entry))
    → AreChosen (in_memory (Unit {0})) (one_stored ∷ []) images
    → 0 ≡ length (image_of images 1) → ⊥
kept [] chosen count = let e = chosen.one_each in absurd (cc)
kept (image ∷ images) chosen count =
    let e : image ≡ pending 1 1 ∷ [] = (chosen.each 0 one_stored image refl refl).1 in
    let long = ap (λ (records : List Entry). length records) e in absurd (omega (arith, long, count))

pub returns-clause-not_without_a_record : goal.returns-clause-not_without_a_record
returns-clause-not_without_a_record c h = kept h.images h.chosen (h.opens.nodes 1).count

pub returns-clause-not_without_a_delivered_message :
    goal.returns-clause-not_without_a_delivered_message
returns-clause-not_without_a_delivered_message c h =
    let delivered = (h.opens.nodes 1).log in
    let e = (h.goes_on.delivered 1).1 in absurd (cc)

pub returns-clause-not_as_a_group_of_no_world : goal.returns-clause-not_as_a_group_of_no_world
returns-clause-not_as_a_group_of_no_world c h = no-world 3 _ h.opens

pub returns-clause-not_as_four_of_no_world : goal.returns-clause-not_as_four_of_no_world
returns-clause-not_as_four_of_no_world c h = no-world 4 _ h.opens
