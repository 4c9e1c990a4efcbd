-- A store in memory that was armed, and a group of nodes that hold no draft.
use Rattle.urb_group.proofs.Common.{Bool, Breaks, Entry, Err, Failure, GroupView, IsSound, IsTied}
use Rattle.urb_group.proofs.Common.{Limits, List, None, Option, Placed, Result, Shows, Some}
use Rattle.urb_group.proofs.Common.{StoreFault, [], after_failure, ap, cases_lt, cond_both}
use Rattle.urb_group.proofs.Common.{draft_at, false, held_draft, held_in, inl, inr, is_node, length}
use Rattle.urb_group.proofs.Common.{opened, refl, replicate, started, suc, sym, true, view_of}
use Rattle.urb_group.proofs.Common.{without_memory, zero, ℕ, ⊎_elim, ◌-◌, ◌<◌, ◌^◌, ◌∙◌, ◌≡◌, ◌≤◌}
use Rattle.urb_group.proofs.Common.{◌⊎◌}
use Rattle.std.proofs.lemmas.List.{length-replicate}
use Rattle.urb_group.proofs.shown.ShownWorlds.{sound-new}
use Rattle.urb_node.specs.Part.{State}
use Rattle.urb_stable.specs.MemoryStores.{Memory}
use Rattle.urb_stable.specs.declared.memory.Failure.TheVariants as failure
use Rattle.urb_stable.specs.declared.stable.StoreFault.TheVariants as fault

-- the effect of an armed store in memory, by cases
pub breaks-so : (out : Bool) (how : Failure) (m : Memory) (entry : Entry) (after : Memory)
    (answer : Result (Unit {0}) StoreFault)
    → (out ≡ true → after ≡ m)
    → (out ≡ false → how ≡ failure.Old → m.failures < 2 ^ 64 - 1
    → (answer ≡ Err fault.Device) × (after ≡ after_failure None m))
    → (out ≡ false → how ≡ failure.New → m.failures < 2 ^ 64 - 1
    → ((answer ≡ Err fault.Device) × (after ≡ after_failure (Some entry) m))
    ⊎ ((answer ≡ Err fault.NoMemory) × (after ≡ without_memory m)))
    → (out ≡ false → 2 ^ 64 - 1 ≤ m.failures
    → (answer ≡ Err fault.NoMemory) × (after ≡ without_memory m))
    → Breaks out how m entry after
breaks-so true how m entry after answer same old new full = same refl
breaks-so false how m entry after answer same old new full =
    at how refl (cases_lt m.failures (2 ^ 64 - 1))
  where
    at : (f : Failure) → how ≡ f → (m.failures < 2 ^ 64 - 1) ⊎ (2 ^ 64 - 1 ≤ m.failures)
        → Breaks false f m entry after
    at failure.Old e (inl below) = inl (old refl e below).1
    at failure.Old e (inr above) = inr (full refl above).1
    at failure.New e (inl below) = ⊎_elim (λ h. inl h.1) (λ h. inr h.1) (new refl e below)
    at failure.New e (inr above) = inr (full refl above).1

-- ---- a group that is new, or opened from images

no-places : (n p : ℕ) → draft_at (replicate n None) p ≡ None
no-places n zero = refl
no-places zero (suc p) = refl
no-places (suc n) (suc zero) = refl
no-places (suc n) (suc (suc p)) = no-places n (suc p)

none-opened : (group : GroupView) (size : Limits) (images : ℕ → List Entry) (p : ℕ)
    → Shows group (opened size images) → held_draft group p ≡ None
none-opened group size images p s =
    cond_both (is_node group.size.n p)
    (held_in (view_of group p).state p (view_of group p).count) None
    (λ (d : Option Placed). d ≡ None)
    (λ _. ap (λ (t : State). held_in t p (view_of group p).count) (s.nodes p).state) (λ _. refl)

-- every node of a world that is opened from images is ready, so no draft is held
pub opened-tied : (group : GroupView) (size : Limits) (images : ℕ → List Entry) (stores : ℕ)
    (drafts : List (Option Placed)) → IsSound group → Shows group (opened size images)
    → stores ≡ size.n → drafts ≡ replicate size.n None
    → IsTied group stores drafts
opened-tied group size images stores drafts sound s count e =
    record {
      sound = sound;
      all_stores = count ∙ ap (λ (l : Limits). l.n) (sym s.size);
      all_places =
          (ap length e ∙ length-replicate size.n None) ∙ ap (λ (l : Limits). l.n) (sym s.size);
      held =
          λ p. ap (λ (ds : List (Option Placed)). draft_at ds p) e
          ∙ (no-places size.n p ∙ sym (none-opened group size images p s));
    }

-- in a new group no node holds a draft, and all places for drafts are empty
pub started-tied : (group : GroupView) (size : Limits) (stores : ℕ) (drafts : List (Option Placed))
    → Shows group (started size) → stores ≡ size.n → drafts ≡ replicate size.n None
    → IsTied group stores drafts
started-tied group size stores drafts s count e =
    opened-tied group size (λ p. []) stores drafts (sound-new group size s) s count e
