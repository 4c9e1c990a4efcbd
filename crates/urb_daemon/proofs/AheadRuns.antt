-- Stores that are wrapped in stores that may hold records ahead, and taken out again. And the run
-- of a group over them.
use Rattle.std.proofs.Common.{Bool, Err, List, Result, Some, [], ap, append_assoc, inl, inr}
use Rattle.std.proofs.Common.{arith, map, refl, reverse, subst, suc, sym, zero, ℕ, ◌++◌, ◌∙◌}
use Rattle.std.proofs.Common.{◌∷◌, ◌≡◌}
use Rattle.std.proofs.lemmas.List.{append-nil, reverse-append}
use Rattle.std.specs.List.{AllByRecursion}
use Rattle.std.specs.Prelude.{slice_get}
use Rattle.urb_names.specs.LabelsAndContents.{Limits}
use Rattle.urb_names.specs.declared.refusal.Refusal.TheVariants as refusal
use Rattle.urb_stable.specs.AheadStores.{AheadView, IsSound, fresh, ghosts_over}
use Rattle.urb_stable.specs.declared.stable.Stable.{Ghosts}
use Rattle.urb_group.specs.StoreOpenings.{HasStopped}
use Rattle.urb_group.specs.GroupViews.{GroupView}
use Rattle.urb_world.specs.World.{World}
use Rattle.urb_daemon.proofs.StoresComeBack.{unasked}
use Rattle.urb_daemon.specs.Runs.{ComeBack, EndsFrom}
use Rattle.urb_daemon.specs.RunsAfterStop.{EndsAfterStop}
use Rattle.urb_daemon.specs.RunsAhead.{RanAhead}
use Rattle.urb_daemon.specs.declared.serve_fault.ServeFault.{ServeFault}
use Rattle.urb_daemon.specs.declared.serve_fault.ServeFault.TheVariants.{Unopened}

-- the inner stores of these
abbrev pub inner : {S : Type 0} → List (AheadView S) → List S
inner wrapped = map (λ s. s.store) wrapped

-- The last ones of these stores are taken out, the last of all first. Each was sound.
pub record HasTaken {S A : Type 0} (g : Ghosts S A) (whole rest : List (AheadView S)) (out : List S)
    : Type 0 where
  pub taken : List (AheadView S)
  pub parts : rest ++ taken ≡ whole
  pub turned : reverse out ≡ inner taken
  pub sound : AllByRecursion (IsSound g) taken

module _ {S A : Type 0} (g : Ghosts S A) where
  -- none is taken out yet
  pub none_taken : (whole : List (AheadView S)) (out : List S) → out ≡ []
      → HasTaken g whole whole out
  none_taken whole out e = record {
    taken = [];
    parts = append-nil whole;
    turned = ap reverse e;
    sound = tt;
  }

  -- one more is taken out
  pub one_taken : (whole old rest : List (AheadView S)) (s : AheadView S) (out new : List S)
      → old ≡ rest ++ s ∷ [] → new ≡ out ++ s.store ∷ [] → IsSound g s
      → HasTaken g whole old out → HasTaken g whole rest new
  one_taken whole old rest s out new last put sound so_far = record {
    taken = s ∷ so_far.taken;
    parts = sym (append_assoc rest (s ∷ []) so_far.taken)
        ∙ ap (λ xs. xs ++ so_far.taken) (sym last) ∙ so_far.parts;
    turned = ap reverse put ∙ reverse-append out (s.store ∷ [])
        ∙ ap (λ xs. s.store ∷ xs) so_far.turned;
    sound = (sound, so_far.sound);
  }

  -- all are taken out
  pub all_taken : (whole rest : List (AheadView S)) (out new : List S) → rest ≡ []
      → new ≡ reverse out → HasTaken g whole rest out → new ≡ inner whole
  all_taken whole rest out new none is so_far =
      is ∙ so_far.turned
      ∙ ap inner (ap (λ xs. xs ++ so_far.taken) (sym none) ∙ so_far.parts)

  sound_at : (whole : List (AheadView S)) → AllByRecursion (IsSound g) whole → (i : ℕ)
      → (s : AheadView S) → slice_get whole i ≡ Some s → IsSound g s
  sound_at [] all i s got = absurd (cc)
  sound_at (x ∷ xs) all zero s got =
      let same : x ≡ s = cc in
      subst (λ y. IsSound g y) same all.0
  sound_at (x ∷ xs) all (suc i) s got = sound_at xs all.1 i s got

  -- and all were sound
  pub all_sound : (whole rest : List (AheadView S)) (out : List S) → rest ≡ []
      → HasTaken g whole rest out → (i : ℕ) (s : AheadView S) → slice_get whole i ≡ Some s
      → IsSound g s
  all_sound whole rest out none so_far =
      sound_at whole
      (subst (λ xs. AllByRecursion (IsSound g) xs)
      (ap (λ xs. xs ++ so_far.taken) (sym none) ∙ so_far.parts) so_far.sound)

-- ---- a run over wrapped stores

-- stores that were wrapped and taken out again
inner_fresh : {S A : Type 0} (g : Ghosts S A) (stores : List S)
    → inner (map (fresh g) stores) ≡ stores
inner_fresh g [] = refl
inner_fresh g (store ∷ stores) = ap (λ xs. store ∷ xs) (inner_fresh g stores)

-- a wrapped store that holds nothing ahead yet is sound
pub fresh_sound : {S A : Type 0} (g : Ghosts S A) (store : S) → IsSound g (fresh g store)
fresh_sound g store = record {
  spent = λ e. refl;
  failing = λ e. refl;
  bounded = omega arith;
  sure = λ some. absurd (omega (arith, some));
  settled = λ some e. absurd (omega (arith, some));
  follows = λ some e honest. absurd (omega (arith, some));
  failed = λ e honest. absurd (cc);
  began = λ e honest. absurd (cc);
  alive = λ e honest clean. absurd (cc);
  counted = λ e honest. absurd (cc);
  left = λ some trusted. absurd (omega (arith, some));
}

-- such stores are sound
all_fresh : {S A : Type 0} (g : Ghosts S A) (stores : List S) (i : ℕ) (s : AheadView S)
    → slice_get (map (fresh g) stores) i ≡ Some s → IsSound g s
all_fresh g [] i s got = absurd (cc)
all_fresh g (store ∷ stores) zero s got =
    let same : fresh g store ≡ s = cc in
    subst (λ x. IsSound g x) same (fresh_sound g store)
all_fresh g (store ∷ stores) (suc i) s got = all_fresh g stores i s got

module _ {S A : Type 0} (g : Ghosts S A) where
  -- a run over the wrapped stores
  pub ran_ahead : (size : Limits) (stores : List S) (told : Bool) (end : Result ℕ ServeFault)
      (closed : List S) (wrapped lasts : List (AheadView S)) → wrapped ≡ map (fresh g) stores
      → ComeBack (ghosts_over g) wrapped lasts
      → EndsFrom (ghosts_over g) size wrapped told end lasts
      → ((old : GroupView) (w : World) → HasStopped (ghosts_over g) old w size wrapped
      → EndsAfterStop (ghosts_over g) old w size wrapped told end lasts)
      → ((i : ℕ) (s : AheadView S) → slice_get lasts i ≡ Some s → IsSound g s)
      → closed ≡ inner lasts → RanAhead g size stores told end closed
  ran_ahead size stores told end closed wrapped lasts is order ends goes_on sound closes = record {
    lasts = lasts;
    order = subst (λ xs. ComeBack (ghosts_over g) xs lasts) is order;
    ends = subst (λ xs. EndsFrom (ghosts_over g) size xs told end lasts) is ends;
    goes_on = λ old w stopped.
        subst (λ xs. EndsAfterStop (ghosts_over g) old w size xs told end lasts) is
        (goes_on old w (subst (λ xs. HasStopped (ghosts_over g) old w size xs) (sym is) stopped));
    sound = sound;
    closes = closes;
  }

  -- no run, because memory for the wrapped stores was refused
  pub ran_unasked : (size : Limits) (stores : List S) (told : Bool)
      → RanAhead g size stores told (Err (Unopened refusal.NoMemory)) stores
  ran_unasked size stores told = record {
    lasts = map (fresh g) stores;
    order = record {
      asked = map (fresh g) stores;
      first = unasked (ghosts_over g) (map (fresh g) stores);
      then = inl refl;
    };
    ends = inl (record { why = refusal.NoMemory; opens = inl (inr (refl, refl)); ends = refl });
    goes_on = λ old w stopped. inl (record {
      why = refusal.NoMemory;
      stays = (stopped, λ may intact. inl refl);
      ends = refl;
    });
    sound = all_fresh g stores;
    closes = sym (inner_fresh g stores);
  }
