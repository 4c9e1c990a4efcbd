-- Images of a store have its records.
use Rattle.std.proofs.Common.{List, Some, [], length, refl, subst, suc, sym, zero, ℕ, ◌∷◌, ◌≡◌}
use Rattle.std.specs.Prelude.{slice_get}
use Rattle.urb_names.specs.Names.{name}
use Rattle.urb_names.specs.LabelsAndContents.{Limits}
use Rattle.urb_names.specs.Pairs.{own}
use Rattle.urb_stable.specs.DeliveredLogs.{log}
use Rattle.urb_stable.specs.Entries.{Entry}
use Rattle.urb_stable.specs.MemoryStores.{Memory, empty_memory}
use Rattle.urb_stable.specs.StableStorage.{IsContents}
use Rattle.urb_stable.specs.internal.MemoryCalls.{with_record}
use Rattle.urb_group.specs.GroupViews.{Shows}
use Rattle.urb_world.specs.World.{World, image_of, stored}
use Rattle.urb_world.specs.internal.Examples.{certified, limits, pending}
use Rattle.urb_world.specs.internal.Scripts.{message}
use Rattle.urb_stable.specs.Fitting.{Fits}
use Rattle.urb_step_examples.specs.internal.GroupExamples.{of_no_world}
use Rattle.urb_step_examples.proofs.worked.group_stores.images_of_stores.Goals as goal

-- no node has delivered a name and stored no record
none : (records : List Entry) → 0 ≡ length records → name 1 1 ∷ [] ≡ log records → ⊥
none [] count delivered = absurd (cc)
none (r ∷ rs) count delivered = absurd (cc)

no-world : (w : World) → Shows (of_no_world 3) w → ⊥
no-world w shows = none (w.node 1).records (shows.nodes 1).count (shows.nodes 1).log

-- the records of a store that has certified a message of its own
misfit : List Entry
misfit = certified 1 1 ∷ []

each : (i : ℕ) (store : Memory) (image : List Entry)
    → slice_get (with_record (certified 1 1) empty_memory ∷ []) i ≡ Some store
    → slice_get (misfit ∷ []) i ≡ Some image
    → Unit {0} × IsContents store.certain store.doubt image
unfolding misfit
each zero store image is chosen =
    let same : with_record (certified 1 1) empty_memory ≡ store = cc in
    let records : misfit ≡ image = cc in
    (tt, subst (λ (it : Memory). IsContents it.certain it.doubt image) same (sym records))
each (suc i) store image is chosen = absurd (cc)

pub returns-clause-not_a_record_that_the_store_lacks :
    goal.returns-clause-not_a_record_that_the_store_lacks
unfolding misfit
returns-clause-not_a_record_that_the_store_lacks c h =
    let e = (h.each 0 empty_memory (pending 1 1 ∷ []) refl refl).1 in cc

pub returns-clause-nothing_fits_no_world : goal.returns-clause-nothing_fits_no_world
unfolding misfit
returns-clause-nothing_fits_no_world c h = no-world h.world h.shows

pub returns-clause-a_misfit : goal.returns-clause-a_misfit
unfolding misfit
returns-clause-a_misfit c h =
    let goes = h.fit (misfit ∷ []) record { one_each = refl; each = each } in
    let fits : Fits (limits 3 10) (image_of (misfit ∷ [])) =
    subst (λ (size : Limits). Fits size (image_of (misfit ∷ []))) (sym h.shows.size) goes.fits in
    absurd (cc)
