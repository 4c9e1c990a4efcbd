-- What a step does to the drafts that the nodes of a group hold, and to the places for them.
use Rattle.urb_group.proofs.Common.{Bool, Down, Drafted, Event, GroupView, Happens, IsSound, IsTied}
use Rattle.urb_group.proofs.Common.{Limits, List, Node, None, Option, Placed, Ready, Refused, Same}
use Rattle.urb_group.proofs.Common.{Sent, Shows, Steps, Storing, World, ap, ap₂, arith, cond}
use Rattle.urb_group.proofs.Common.{cond_both, draft_at, eq-eqb, eqb-true, false, get_or-set_other}
use Rattle.urb_group.proofs.Common.{get_or-set_same, held_draft, held_in, is_node, is_storing}
use Rattle.urb_group.proofs.Common.{length, refl, slice_index_or, slice_set, step-elsewhere}
use Rattle.urb_group.proofs.Common.{step-size, subst, suc, sym, true, zero, ℕ, ◌-◌, ◌<◌, ◌==◌, ◌∙◌}
use Rattle.urb_group.proofs.Common.{◌≡◌, ◌≢◌}
use Rattle.std.proofs.Common.{length-set}
use Rattle.urb_group.proofs.shown.AgreeingWorlds.{sound-step}
use Rattle.urb_world.proofs.steps.DraftsInSteps.{CalmAs, event_node, step-calm}
use Rattle.urb_world.specs.Step.{step}
use Rattle.urb_node.specs.Part.{State}
use Rattle.urb_node.specs.Replies.{Reply}

-- ---- the drafts that a group's nodes hold are those that a shown world's hold

none-held : (s : State) (p count : ℕ) → is_storing s ≡ false → held_in s p count ≡ None
none-held Ready p count e = refl
none-held (Storing entry cause) p count e = cc
none-held (Down d) p count e = refl

-- the draft that node p holds in a world
abbrev pub draft_in : World → ℕ → Option Placed
draft_in w p =
    cond (is_node w.size.n p) (held_in (w.node p).state p (length (w.node p).records)) None

held-shown : (group : GroupView) (w : World) (p : ℕ) → Shows group w
    → held_draft group p ≡ draft_in w p
held-shown group w p s =
    ap₂ (λ (n : ℕ) (d : Option Placed). cond (is_node n p) d None) (ap (λ (l : Limits). l.n) s.size)
    (ap₂ (λ (st : State) (c : ℕ). held_in st p c) (s.nodes p).state (s.nodes p).count)

no-draft : (w : World) (p : ℕ) → is_storing (w.node p).state ≡ false → draft_in w p ≡ None
no-draft w p e =
    cond_both (is_node w.size.n p) (held_in (w.node p).state p (length (w.node p).records)) None
    (λ (d : Option Placed). d ≡ None)
    (λ _. none-held (w.node p).state p (length (w.node p).records) e) (λ _. refl)

same-draft : (v w : World) (q : ℕ) → v.size ≡ w.size → v.node q ≡ w.node q
    → draft_in v q ≡ draft_in w q
same-draft v w q e f =
    ap₂ (λ (l : Limits) (n : Node).
    cond (is_node l.n q) (held_in n.state q (length n.records)) None) e f

-- by the reply, the drafts that the node held before and holds after
abbrev pub CalmDrafts : Reply → Option Placed → Option Placed → Type 0
CalmDrafts (Drafted x position) before after = Unit {0}
CalmDrafts (Same answer) before after = (before ≡ None) × (after ≡ None)
CalmDrafts (Sent packets) before after = (before ≡ None) × (after ≡ None)
CalmDrafts (Refused r) before after = Unit {0}
CalmDrafts reply before after = after ≡ None

to_drafts : (reply : Reply) (v w : World) (p : ℕ)
    → CalmAs reply (is_storing (v.node p).state) (is_storing (w.node p).state)
    → CalmDrafts reply (draft_in v p) (draft_in w p)
to_drafts (Drafted x position) v w p h = tt
to_drafts (Same answer) v w p h = (no-draft v p h.0, no-draft w p h.1)
to_drafts (Sent packets) v w p h = (no-draft v p h.0, no-draft w p h.1)
to_drafts (Refused r) v w p h = tt
to_drafts reply v w p h = no-draft w p h

-- ---- an event that happened

module _ (old new : GroupView) (event : Event) (IsTold : Reply → Type 0) (sound : IsSound old)
    (steps : Steps old event IsTold new) where
  happens : Happens event IsTold new sound.world
  happens = steps sound.world sound.shows

  -- a sound group is sound after an event
  pub steps-sound : IsSound new
  steps-sound = sound-step old new event sound (λ v s. (steps v s).shows)

  -- an event leaves the limits of the group
  pub steps-size : new.size ≡ old.size
  steps-size = happens.shows.size ∙ step-size sound.world event ∙ sym sound.shows.size

  steps-elsewhere : (q : ℕ) → (q == event_node event) ≡ false → held_draft new q ≡ held_draft old q
  steps-elsewhere q e =
      held-shown new (step sound.world event).1 q happens.shows
      ∙ same-draft (step sound.world event).1 sound.world q (step-size sound.world event)
      (step-elsewhere sound.world event q e)
      ∙ sym (held-shown old sound.world q sound.shows)

-- what the reply says about the drafts of the event's node
pub steps-calm : (old new : GroupView) (event : Event) (reply : Reply) → IsSound old
    → Steps old event (λ told. told ≡ reply) new
    → CalmDrafts reply (held_draft old (event_node event)) (held_draft new (event_node event))
steps-calm old new event reply sound steps =
    subst (λ (d : Option Placed). CalmDrafts reply d (held_draft new p))
    (sym (held-shown old w p sound.shows))
    (subst (λ (d : Option Placed). CalmDrafts reply (draft_in w p) d)
    (sym (held-shown new (step w event).1 p (steps w sound.shows).shows))
    (to_drafts reply w (step w event).1 p
    (subst (λ (r : Reply). CalmAs r (is_storing (w.node p).state)
    (is_storing ((step w event).1.node p).state)) (steps w sound.shows).told
    (step-calm w event))))
  where
    w : World
    w = sound.world

    p : ℕ
    p = event_node event

-- ---- the places

placed-here : (drafts : List (Option Placed)) (p : ℕ) (d : Option Placed) → 0 < p
    → p - 1 < length drafts → draft_at (slice_set drafts (p - 1) d) p ≡ d
placed-here drafts zero d h l = absurd (omega arith)
placed-here drafts (suc i) d h l =
    let e : suc i - 1 ≡ i = omega arith in
    let k : i < length drafts = omega arith in
    ap (λ j. slice_index_or (slice_set drafts j d) i None) e ∙ get_or-set_same drafts i d None k

placed-elsewhere : (drafts : List (Option Placed)) (p : ℕ) (d : Option Placed) (q : ℕ) → 0 < p
    → (q == p) ≡ false → draft_at (slice_set drafts (p - 1) d) q ≡ draft_at drafts q
placed-elsewhere drafts p d zero h e = refl
placed-elsewhere drafts zero d (suc j) h e = absurd (omega arith)
placed-elsewhere drafts (suc i) d (suc j) h e =
    let f : suc i - 1 ≡ i = omega arith in
    let differs : j ≢ i = λ k. cc (eq-eqb (suc j) (suc i) (ap suc k)) in
    ap (λ k. slice_index_or (slice_set drafts k d) j None) f
    ∙ get_or-set_other drafts i j d None differs

module _ (old new : GroupView) (event : Event) (IsTold : Reply → Type 0) (stores : ℕ)
    (drafts : List (Option Placed)) (tied : IsTied old stores drafts)
    (steps : Steps old event IsTold new) where
  -- the node's draft is put into its place
  pub tied-set : (p : ℕ) (d : Option Placed) → event_node event ≡ p → 0 < p → p - 1 < length drafts
      → held_draft new p ≡ d → IsTied new stores (slice_set drafts (p - 1) d)
  tied-set p d e h l is =
      record {
        sound = steps-sound old new event IsTold tied.sound steps;
        all_stores = tied.all_stores ∙ ap (λ (s : Limits). s.n) (sym size);
        all_places =
            length-set drafts (p - 1) d ∙ (tied.all_places ∙ ap (λ (s : Limits). s.n) (sym size));
        held = λ q. at q (q == p) refl;
      }
    where
      size : new.size ≡ old.size
      size = steps-size old new event IsTold tied.sound steps

      at : (q : ℕ) (b : Bool) → (q == p) ≡ b
          → draft_at (slice_set drafts (p - 1) d) q ≡ held_draft new q
      at q true f =
          subst (λ (i : ℕ). draft_at (slice_set drafts (p - 1) d) i ≡ held_draft new i)
          (sym (eqb-true q p f))
          (placed-here drafts p d h l ∙ sym is)
      at q false f =
          placed-elsewhere drafts p d q h f
          ∙ (tied.held q ∙ sym (steps-elsewhere old new event IsTold tied.sound steps q
          (subst (λ (i : ℕ). (q == i) ≡ false) (sym e) f)))

  -- the node holds no draft, before and after
  pub tied-kept : held_draft old (event_node event) ≡ None
      → held_draft new (event_node event) ≡ None → IsTied new stores drafts
  tied-kept before after =
      record {
        sound = steps-sound old new event IsTold tied.sound steps;
        all_stores = tied.all_stores ∙ ap (λ (s : Limits). s.n) (sym size);
        all_places = tied.all_places ∙ ap (λ (s : Limits). s.n) (sym size);
        held = λ q. at q (q == event_node event) refl;
      }
    where
      size : new.size ≡ old.size
      size = steps-size old new event IsTold tied.sound steps

      at : (q : ℕ) (b : Bool) → (q == event_node event) ≡ b → draft_at drafts q ≡ held_draft new q
      at q true f =
          subst (λ (i : ℕ). draft_at drafts i ≡ held_draft new i)
          (sym (eqb-true q (event_node event) f))
          (tied.held (event_node event) ∙ (before ∙ sym after))
      at q false f = tied.held q ∙ sym (steps-elsewhere old new event IsTold tied.sound steps q f)
