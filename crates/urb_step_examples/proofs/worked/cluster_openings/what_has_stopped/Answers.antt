-- What a sound group has counted, and what a new node has stored.
use Rattle.std.proofs.Common.{List, [], false, length, refl, sym, true, ℕ, ◌∷◌, ◌≡◌}
use Rattle.urb_names.specs.Names.{has_name, name}
use Rattle.urb_names.specs.LabelsAndContents.{Label}
use Rattle.urb_stable.specs.Entries.{Entry}
use Rattle.urb_stable.specs.Records.{cert}
use Rattle.urb_world.specs.World.{stored}
use Rattle.urb_world.specs.internal.Examples.{pending}
use Rattle.urb_names.specs.Acknowledgements.{acked}
use Rattle.urb_world.specs.RunInvariant.{AcksKept}
use Rattle.urb_step_examples.specs.internal.StoreExamples.{one_stored}
use Rattle.urb_step_examples.proofs.worked.cluster_openings.what_has_stopped.Goals as goal

-- the one record
one : List Entry
one = pending 1 1 ∷ []

-- a node without records has counted nothing
counted : (images : ℕ → List Entry) (records : List Entry) (acks : List (Label × ℕ))
    → 0 ≡ length records
    → (has_name (cert records) (name 1 1) ≡ false → true ≡ acked acks (name 1 1) 2)
    → AcksKept images records acks → ⊥
counted images [] acks count shown kept =
    let e = (kept (name 1 1) 2 refl (sym (shown refl))).1 in absurd (cc)
counted images (r ∷ rs) acks count shown kept = absurd (cc)

pub returns-clause-no_unsound_group : goal.returns-clause-no_unsound_group
unfolding one
returns-clause-no_unsound_group c w h =
    counted (stored h.sound.world) (h.sound.world.node 1).records (h.sound.world.node 1).acks
    (h.sound.shows.nodes 1).count ((h.sound.shows.nodes 1).acks (name 1 1) 2)
    (h.sound.kept.nodes 1).acks

pub returns-clause-not_with_a_record_more : goal.returns-clause-not_with_a_record_more
unfolding one
returns-clause-not_with_a_record_more c h =
    let e : one ≡ [] = h.holds 0 one_stored refl tt one refl in cc
