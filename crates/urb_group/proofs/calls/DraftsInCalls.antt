-- What the calls of a group do to the drafts that its nodes hold.
use Rattle.urb_group.proofs.Common.{Carried, Drafted, Err, Event, GroupView, HoldsDraft, IsSound}
use Rattle.urb_group.proofs.Common.{IsTied, Limits, List, None, Ok, Option, Placed, Reacts, Refusal}
use Rattle.urb_group.proofs.Common.{Refused, Result, Same, Sent, Some, Steps, Taken, Takes, Tick}
use Rattle.urb_group.proofs.Common.{WentDown, and_parts, ap, arith, cond-true, held_draft, held_in}
use Rattle.urb_group.proofs.Common.{inl, inr, is_node, length, ltb-true, name_of, nat_lt, slice_set}
use Rattle.urb_group.proofs.Common.{subst, suc, sym, true, view_of, ℕ, ◌-◌, ◌<◌, ◌∙◌, ◌≡◌, ◌≤◌, ◌⊎◌}
use Rattle.urb_world.proofs.steps.DraftsInSteps.{event_node, step-at}
use Rattle.urb_group.proofs.calls.HeldDrafts.{steps-calm, steps-size, tied-kept, tied-set}
use Rattle.urb_group.specs.GroupCalls.{Ticks}
use Rattle.urb_group.specs.internal.CallReplies.{IsWithin, noted_in, told_of}
use Rattle.urb_world.specs.Step.{step}
use Rattle.urb_node.specs.Part.{State}
use Rattle.urb_node.specs.Replies.{Reply}
use Rattle.urb_group.specs.declared.taken.Taken.TheVariants as taken

-- ---- a refusal leaves the places

-- after a refusal the places still have the drafts that nodes hold
pub refused-tied : (old new : GroupView) (stores : ℕ) (drafts : List (Option Placed))
    → IsTied old stores drafts → new ≡ old → IsTied new stores drafts
refused-tied old new stores drafts tied e =
    subst (λ (group : GroupView). IsTied group stores drafts) (sym e) tied

-- ---- which nodes there are

-- the number of a node is at least 1 and at most n
pub node-bounds : (n p : ℕ) → is_node n p ≡ true → (0 < p) × (p ≤ n)
node-bounds n p h =
    let parts = and_parts (nat_lt 0 p) (nat_lt p (suc n)) h in
    let low : 0 < p = ltb-true 0 p parts.0 in
    let high : p < suc n = ltb-true p (suc n) parts.1 in
    (low, omega arith)

-- the node of an event that is not refused is one of the group
pub steps-node : (old new : GroupView) (event : Event) (reply : Reply) → IsSound old
    → Steps old event (λ told. told ≡ reply) new
    → ((r : Refusal) → reply ≡ Refused r → ⊥) → is_node old.size.n (event_node event) ≡ true
steps-node old new event reply sound steps other = at (step-at sound.world event)
  where
    at : (is_node sound.world.size.n (event_node event) ≡ true)
        ⊎ ((r : Refusal) × ((step sound.world event).0 ≡ Refused r))
        → is_node old.size.n (event_node event) ≡ true
    at (inl e) =
        subst (λ (l : Limits). is_node l.n (event_node event) ≡ true) (sym sound.shows.size) e
    at (inr (r, e)) = absurd (other r (sym (steps sound.world sound.shows).told ∙ e))

-- ---- a draft that the group holds

holds-held : (group : GroupView) (draft : Placed) → HoldsDraft group draft
    → is_node group.size.n draft.node ≡ true → held_draft group draft.node ≡ Some draft
holds-held group draft h is =
    cond-true (is_node group.size.n draft.node)
    (held_in (view_of group draft.node).state draft.node (view_of group draft.node).count)
    None is
    ∙ (ap (λ (s : State). held_in s draft.node (view_of group draft.node).count) h.state
    ∙ ap (λ (i : ℕ). Some (record { node = draft.node; pos = i; entry = draft.entry }))
    (sym h.position))

-- ---- submits and arrivals

module _ (old new : GroupView) (p : ℕ) (event : Event) (e : event_node event ≡ p) (stores : ℕ)
    (drafts : List (Option Placed)) (tied : IsTied old stores drafts) where
  taken-bounds : (draft : Placed)
      → Steps old event (λ reply. reply ≡ Drafted (name_of draft.entry) draft.pos) new
      → (0 < p) × (p ≤ length drafts)
  taken-bounds draft steps =
      let bounds =
      node-bounds old.size.n (event_node event)
      (steps-node old new event (Drafted (name_of draft.entry) draft.pos) tied.sound steps
      (λ r f. cc)) in
      let low : 0 < event_node event = bounds.0 in
      let high : event_node event ≤ old.size.n = bounds.1 in
      let count : length drafts ≡ old.size.n = tied.all_places in
      (omega arith, omega arith)

  -- a draft that a submit or an arrival returns belongs to a node that has a place
  pub takes-within : {A : Type 0} (result : Result (Taken A) Refusal) → Takes old p event result new
      → IsWithin (length drafts) result
  takes-within (Ok (taken.Same answer)) h = tt
  takes-within (Ok (taken.Store draft)) h =
      subst (λ (i : ℕ). (0 < i) × (i ≤ length drafts)) (sym h.1) (taken-bounds draft h.0)
  takes-within (Err r) h = tt

  -- after a submit or an arrival, with its draft noted, the places have the drafts that nodes hold
  pub takes-tied : {A : Type 0} (result : Result (Taken A) Refusal) → Takes old p event result new
      → IsTied new stores (noted_in drafts result)
  takes-tied (Ok (taken.Same answer)) h =
      let none = steps-calm old new event (Same answer) tied.sound h in
      tied-kept old new event (λ told. told ≡ Same answer) stores drafts tied h none.0 none.1
  takes-tied (Ok (taken.Store draft)) h =
      let bounds =
      subst (λ (i : ℕ). (0 < i) × (i ≤ length drafts)) (sym h.1) (taken-bounds draft h.0) in
      let low : 0 < draft.node = bounds.0 in
      let high : draft.node ≤ length drafts = bounds.1 in
      let within : draft.node - 1 < length drafts = omega arith in
      let is : is_node old.size.n (event_node event) ≡ true =
      steps-node old new event (Drafted (name_of draft.entry) draft.pos) tied.sound h.0
      (λ r f. cc) in
      tied-set old new event (λ told. told ≡ Drafted (name_of draft.entry) draft.pos)
      stores drafts tied h.0 draft.node (Some draft) (e ∙ sym h.1) low within
      (holds-held new draft h.2 (subst (λ (i : ℕ). is_node new.size.n i ≡ true) (e ∙ sym h.1)
      (subst (λ (l : Limits). is_node l.n (event_node event) ≡ true)
      (sym (steps-size old new event
      (λ told. told ≡ Drafted (name_of draft.entry) draft.pos) tied.sound h.0)) is)))
  takes-tied (Err r) h = refused-tied old new stores drafts tied h.1

  -- the result of a submit or an arrival is the event with the reply that it tells
  pub takes-reacts : {A : Type 0} (result : Result (Taken A) Refusal) → Takes old p event result new
      → Reacts old event (told_of result) new
  takes-reacts (Ok (taken.Same answer)) h = h
  takes-reacts (Ok (taken.Store draft)) h = h.0
  takes-reacts (Err r) h = h

-- ---- ticks

-- after a tick the places still have the drafts that nodes hold
pub ticks-tied : (old new : GroupView) (p stores : ℕ) (drafts : List (Option Placed))
    → IsTied old stores drafts → (result : Result (List Carried) Refusal)
    → Ticks old (Tick p) result new → IsTied new stores drafts
ticks-tied old new p stores drafts tied (Ok packets) h =
    let none = steps-calm old new (Tick p) (Sent packets) tied.sound h in
    tied-kept old new (Tick p) (λ told. told ≡ Sent packets) stores drafts tied h none.0 none.1
ticks-tied old new p stores drafts tied (Err r) h = refused-tied old new stores drafts tied h.1

-- ---- a node that goes down, and its place

module _ (old new : GroupView) (p : ℕ) (event : Event) (e : event_node event ≡ p) (stores : ℕ)
    (drafts : List (Option Placed)) (tied : IsTied old stores drafts)
    (steps : Steps old event (λ reply. reply ≡ WentDown p) new) where
  -- a node that goes down has a place
  pub down-bounds : (0 < p) × (p ≤ length drafts)
  down-bounds =
      let bounds =
      node-bounds old.size.n (event_node event)
      (steps-node old new event (WentDown p) tied.sound steps (λ r f. cc)) in
      let low : 0 < event_node event = bounds.0 in
      let high : event_node event ≤ old.size.n = bounds.1 in
      let count : length drafts ≡ old.size.n = tied.all_places in
      (omega arith, omega arith)

  -- once a node went down and its place is emptied, the places have the drafts that nodes hold
  pub down-tied : IsTied new stores (slice_set drafts (p - 1) None)
  down-tied =
      let low : 0 < p = down-bounds.0 in
      let high : p ≤ length drafts = down-bounds.1 in
      let within : p - 1 < length drafts = omega arith in
      tied-set old new event (λ told. told ≡ WentDown p)
      stores drafts tied steps p None e low within
      (subst (λ (i : ℕ). held_draft new i ≡ None) e
      (steps-calm old new event (WentDown p) tied.sound steps))

-- ---- a node that holds no draft

-- an event of a node that holds no draft, before and after, leaves the places as the nodes' drafts
pub reacts-tied : (old new : GroupView) (event : Event) (stores : ℕ) (drafts : List (Option Placed))
    → IsTied old stores drafts → (reply : Reply) → Reacts old event reply new
    → held_draft old (event_node event) ≡ None → held_draft new (event_node event) ≡ None
    → IsTied new stores drafts
reacts-tied old new event stores drafts tied (Refused r) h a b =
    refused-tied old new stores drafts tied h.1
reacts-tied old new event stores drafts tied reply h a b =
    tied-kept old new event (λ told. told ≡ reply) stores drafts tied h a b
