-- A node that counts a name has a message under it.
use Rattle.std.proofs.Common.{List, [], false, length, refl, sym, true, ℕ, ◌∷◌, ◌≡◌}
use Rattle.urb_names.specs.Names.{has_name, name}
use Rattle.urb_names.specs.LabelsAndContents.{Label}
use Rattle.urb_stable.specs.DeliveredLogs.{log}
use Rattle.urb_stable.specs.Entries.{Entry}
use Rattle.urb_stable.specs.Records.{cert}
use Rattle.urb_group.specs.GroupViews.{Shows}
use Rattle.urb_world.specs.World.{World, stored}
use Rattle.urb_names.specs.Acknowledgements.{acked}
use Rattle.urb_world.specs.RunInvariant.{AcksKept}
use Rattle.urb_step_examples.specs.internal.GroupExamples.{of_no_world}
use Rattle.urb_step_examples.proofs.worked.group_stores.sound_groups.Goals as goal

-- no node has delivered a name and stored no record
none : (records : List Entry) → 0 ≡ length records → name 1 1 ∷ [] ≡ log records → ⊥
none [] count delivered = absurd (cc)
none (r ∷ rs) count delivered = absurd (cc)

no-world : (w : World) → Shows (of_no_world 3) w → ⊥
no-world w shows = none (w.node 1).records (shows.nodes 1).count (shows.nodes 1).log

-- a node without records has counted nothing
counted : (images : ℕ → List Entry) (records : List Entry) (acks : List (Label × ℕ))
    → 0 ≡ length records
    → (has_name (cert records) (name 1 1) ≡ false → true ≡ acked acks (name 1 1) 2)
    → AcksKept images records acks → ⊥
counted images [] acks count shown kept =
    let e = (kept (name 1 1) 2 refl (sym (shown refl))).1 in absurd (cc)
counted images (r ∷ rs) acks count shown kept = absurd (cc)

pub returns-clause-not_of_no_world : goal.returns-clause-not_of_no_world
returns-clause-not_of_no_world c h = no-world h.world h.shows

pub returns-clause-not_with_an_acknowledgement_of_nothing :
    goal.returns-clause-not_with_an_acknowledgement_of_nothing
returns-clause-not_with_an_acknowledgement_of_nothing c h =
    counted (stored h.world) (h.world.node 1).records (h.world.node 1).acks
    (h.shows.nodes 1).count ((h.shows.nodes 1).acks (name 1 1) 2) (h.kept.nodes 1).acks
