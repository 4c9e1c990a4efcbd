-- What a group needs to open from images. Images without a misfit fit, and each keeps the rules
-- about itself. A group whose nodes show their images shows the opened world.
use Rattle.urb_group.proofs.Common.{AreImages, Entry, Fits, GroupView, KeepsOwn, Limits, List}
use Rattle.urb_group.proofs.Common.{NodeView, None, Shows, ShowsNode, Some, [], arith, cases_lt}
use Rattle.urb_group.proofs.Common.{first_misfit, length, no_view, nothing-shows, opened}
use Rattle.urb_group.proofs.Common.{opened_node, refl, slice_index_or, subst, suc, sym, view_of}
use Rattle.urb_group.proofs.Common.{zero, ℕ, ⊎_elim, ◌<◌, ◌∷◌, ◌≡◌, ◌≤◌, ◌⊎◌}
use Rattle.urb_group.proofs.shown.SoundConditions.{fitting-own}
use Rattle.urb_world.proofs.steps.Runs.{past_end}
use Rattle.urb_stable.specs.Fitting.{first_of_all, misfits}
use Rattle.urb_stable.specs.Images.{image_of}
use Rattle.urb_stable.specs.declared.fitting.Misfit.{Misfit}

-- ---- no misfit

-- images without a misfit fit together
pub no_misfit-fits : (limits : Limits) (images : ℕ → List Entry) → first_misfit limits images ≡ None
    → Fits limits images
no_misfit-fits limits images e = at (misfits limits images) e
  where
    at : (ms : List Misfit) → first_of_all ms ≡ None → ms ≡ []
    at [] f = refl
    at (m ∷ ms) f = absurd (cc)

-- images with a misfit do not
pub misfit-unfit : (limits : Limits) (images : ℕ → List Entry) (m : Misfit)
    → first_misfit limits images ≡ Some m → Fits limits images → ⊥
misfit-unfit limits images m e fits = at (misfits limits images) e fits
  where
    at : (ms : List Misfit) → first_of_all ms ≡ Some m → ms ≡ [] → ⊥
    at [] f g = cc
    at (first ∷ ms) f g = cc

-- each of the fitting images keeps the rules about itself
pub opened-own : (limits : Limits) (images : List (List Entry)) → AreImages limits images
    → first_misfit limits (image_of images) ≡ None → (p : ℕ)
    → KeepsOwn limits p [] (image_of images p)
opened-own limits images are e =
    fitting-own limits images are (no_misfit-fits limits (image_of images) e)

-- ---- the opened world

-- a group shows the opened world if each of its nodes shows the node that is opened from its image
pub opened-shows : (group : GroupView) (limits : Limits) (images : List (List Entry))
    → group.size ≡ limits → length group.nodes ≡ length images
    → ((i : ℕ) → i < length images
    → ShowsNode limits (suc i) (slice_index_or group.nodes i no_view)
    (opened_node (suc i) (slice_index_or images i [])))
    → Shows group (opened limits (image_of images))
opened-shows group limits images size many each = record { size = size; nodes = nodes }
  where
    at_place : (i : ℕ) → (i < length images) ⊎ (length images ≤ i)
        → ShowsNode limits (suc i) (slice_index_or group.nodes i no_view)
        (opened_node (suc i) (slice_index_or images i []))
    at_place i within =
        ⊎_elim (λ l. each i l)
        (λ l.
        subst (λ (view : NodeView). ShowsNode limits (suc i) view
        (opened_node (suc i) (slice_index_or images i [])))
        (sym (past_end group.nodes i no_view (omega arith)))
        (subst (λ (image : List Entry).
        ShowsNode limits (suc i) no_view (opened_node (suc i) image)) (sym (past_end images i [] l))
        (nothing-shows limits (suc i))))
        within

    nodes : (p : ℕ) → ShowsNode limits p (view_of group p) (opened_node p (image_of images p))
    nodes zero = nothing-shows limits zero
    nodes (suc i) = at_place i (cases_lt i (length images))
