-- What is foreseen of the calls of a list, one after the other.
use Rattle.std.proofs.Common.{List, None, Option, inl, inr, length, map, refl, slice_index_or}
use Rattle.std.proofs.Common.{subst, sym, ℕ, ◌+◌, ◌<◌, ◌∙◌, ◌∷◌, ◌≡◌, ◌≢◌, ◌≤◌, ap}
use Rattle.std.proofs.Math.ListN.{drop}
use Rattle.std.proofs.lemmas.List.{at_drop_more, drop_all}
use Rattle.urb_names.specs.declared.refusal.NoMemory.{NoMemory}
use Rattle.urb_stable.specs.Entries.{Entry}
use Rattle.urb_world.specs.Step.{Event}
use Rattle.urb_group.specs.GroupViews.{GroupView}
use Rattle.urb_foresight.specs.ForeseenDrafts.{EndsAt, Foresees, ForeseesCalls}
use Rattle.urb_foresight.specs.ForeseenDrafts.{MayBeNext, MayBeStored}
use Rattle.urb_foresight.specs.declared.foreseen.Foreseen.{Foreseen}
use Rattle.urb_foresight.specs.declared.foreseen.Foreseen.TheVariants as foreseen

module _ {A : Type 0} (group : GroupView) (p : ℕ) (event_at : A → Event) (calls : List A) (i : ℕ)
    (call : A) (inside : i < length calls) (is : call ≡ slice_index_or calls i call) where
  -- the calls that are left begin with this one
  left-is : (P : List Event → Type 0)
      → P (event_at call ∷ map event_at (drop (i + 1) calls)) → P (map event_at (drop i calls))
  left-is P h =
      subst (λ (es : List Event). P es)
      (sym (at_drop_more (map event_at) calls i call inside
      ∙ ap (λ (c : A). event_at c ∷ map event_at (drop (i + 1) calls)) (sym is))) h

  -- if this call is foreseen, the rest is foreseen behind its record
  pub one-more : (old between new : List Entry) (told : Foreseen) (refused : Option NoMemory)
      → told ≢ foreseen.Unsure → Foresees group p old (event_at call) told between
      → ForeseesCalls group p (map event_at (drop (i + 1) calls)) between new refused
      → ForeseesCalls group p (map event_at (drop i calls)) old new refused
  one-more old between new told refused sure here rest =
      left-is (λ (es : List Event). ForeseesCalls group p es old new refused)
      (inr (told, between, sure, here, rest))

  -- with this call it may end
  pub ends-here : (old new : List Entry) (refused : Option NoMemory) → new ≡ old
      → EndsAt group p old (event_at call) refused
      → ForeseesCalls group p (map event_at (drop i calls)) old new refused
  ends-here old new refused same ends =
      left-is (λ (es : List Event). ForeseesCalls group p es old new refused) (inl (same, ends))

  -- with a call of which nothing is foreseen it ends
  pub ends-unsure : (old new : List Entry) (told : Foreseen) → told ≡ foreseen.Unsure
      → Foresees group p old (event_at call) told new
      → ForeseesCalls group p (map event_at (drop i calls)) old new None
  ends-unsure old new told unsure here =
      let h = subst (λ (t : Foreseen). Foresees group p old (event_at call) t new) unsure here in
      ends-here old new None h.0 h.1

-- behind the last call it ends
pub ends-behind : {A : Type 0} (group : GroupView) (p : ℕ) (event_at : A → Event) (calls : List A)
    (i : ℕ) (old : List Entry) → length calls ≤ i
    → ForeseesCalls group p (map event_at (drop i calls)) old old None
ends-behind group p event_at calls i old past =
    subst (λ (es : List Event). ForeseesCalls group p es old old None)
    (sym (ap (map event_at) (drop_all i calls past))) (refl, refl)

module _ (group : GroupView) (p : ℕ) (old new : List Entry)
    (next : 0 < length old → MayBeNext group p old) where
  -- records that node p may store next are still those
  pub next-same : new ≡ old → 0 < length new → MayBeNext group p new
  next-same same = subst (λ (rs : List Entry). 0 < length rs → MayBeNext group p rs) (sym same) next

  -- the records behind a call are such records too
  pub next-told : (event : Event) (told : Foreseen) → told ≢ foreseen.Unsure
      → Foresees group p old event told new → MayBeStored group p new told → 0 < length new
      → MayBeNext group p new
  next-told event foreseen.Draft sure here may some = may
  next-told event foreseen.NoDraft sure here may some = next-same here.0 some
  next-told event foreseen.Unsure sure here may some = absurd (sure refl)
