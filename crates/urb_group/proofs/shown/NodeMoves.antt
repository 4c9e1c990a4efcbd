-- What one node's move means for the whole group. It is a step of each world that the group shows,
-- and the group is sound after it.
use Rattle.urb_group.proofs.Common.{CallResult, Err, Event, GroupView, Happens, HoldsDraft, IsGroup}
use Rattle.urb_group.proofs.Common.{IsNumbered, IsRefused, IsRefusedAs, IsSound, Leads, LeadsAt}
use Rattle.urb_group.proofs.Common.{Limits, List, Node, NodeView, Ok, Outcomes, Placed, Refusal}
use Rattle.urb_group.proofs.Common.{Shows, ShowsAt, ShowsNode, Some, Steps, Storing, World, ap}
use Rattle.urb_group.proofs.Common.{arith, at_node, get_or-set_same, length, length-map, map}
use Rattle.urb_group.proofs.Common.{memory_in, no_view, refl, set, shown, slice_get, slice_index_or}
use Rattle.urb_group.proofs.Common.{step-goes_on, step-keeps, step-outcome, subst, suc, sym}
use Rattle.urb_group.proofs.Common.{view_at, view_of, world_after, ℕ, ⊎_elim, ◌<◌, ◌∙◌, ◌≡◌}
use Rattle.std.proofs.lemmas.List.{length-set, map-set}
use Rattle.urb_node.specs.Replies.{Reply}
use Rattle.urb_node.specs.NodeMemories.{IsSameNode}
use Rattle.urb_world.specs.EventEffects.{event_node}
use Rattle.urb_group.specs.internal.PlaceCalls.{IsHeldAt}
use Rattle.urb_world.specs.Step.{step}
use Rattle.urb_group.specs.declared.node_moves.Node.{Node as Place}
use Rattle.urb_group.proofs.shown.AgreeingWorlds.{sound-kept, sound-step}
use Rattle.urb_world.proofs.steps.StepCases.{IsNoArrival, outcome_of}
use Rattle.urb_group.proofs.shown.ReplacedElements.{read_after_write, read_mapped, read_within}
use Rattle.urb_group.proofs.shown.ReplacedElements.{set_same}
use Rattle.urb_group.proofs.shown.ShownWorlds.{at_no_node, at_some_node, shows-after}
use Rattle.urb_names.specs.declared.refusal.Refusal.TheVariants as refusal
use Rattle.urb_group.specs.declared.node_moves.Node.TheVariants as place

-- the result of an event in every world that a group shows
abbrev pub StepsTo : GroupView → Event → CallResult → GroupView → Type 0
StepsTo old event (Ok reply) new = Steps old event (λ r. r ≡ reply) new
StepsTo old event (Err r) new = IsRefused old event r new

-- an event that a sound group's worlds take, each with the group after it
happens : (old new : GroupView) (event : Event) (IsTold : Reply → Type 0) (w : World) → IsSound old
    → Shows old w → IsTold (step w event).0 → Shows new (step w event).1
    → Happens event IsTold new w
happens old new event IsTold w sound s t n =
    record {
      told = t;
      shows = n;
      truth = (step-goes_on w event).truth;
      sent =
          (step-keeps w event (sound-kept old w sound s).nodes).told;
    }

-- an event at a node that the group doesn't have is refused
pub nowhere : {A : Type 0} (size : Limits) (places : List (Place A)) (event : Event)
    → IsNoArrival event → size.n < event_node event
    → IsRefused (shown size places) event refusal.BadNode (shown size places)
nowhere size places event other past = (
  λ w s. ap (λ (o : Reply × World). o.0)
      (step-outcome w event other ∙ at_no_node w (event_node event) (outcome_of w event)
      (subst (λ (l : Limits). l.n < event_node event) s.size past)),
  refl,
)

module _ {A : Type 0} (size : Limits) (places : List (Place A)) (group : IsGroup size places)
    (i : ℕ) (node moved : Place A) (was : slice_get places i ≡ Some node) where
  numbered : IsNumbered size i node
  numbered = group.placed.each i node was

  below : i < size.n
  below =
      let h : i < length places = read_within places i node was in
      omega (arith, h, group.placed.count)

  -- the place shows its node of each world that the group shows
  pub place_shows : (w : World) → Shows (shown size places) w → ShowsAt node (w.node (suc i))
  place_shows w s =
      subst (λ (l : Limits). ShowsNode l (memory_in node).node (view_at node) (w.node (suc i)))
      (sym (numbered.limits ∙ s.size))
      (subst (λ (p : ℕ). ShowsNode w.size p (view_at node) (w.node (suc i))) (sym numbered.number)
      (subst (λ (v : NodeView). ShowsNode w.size (suc i) v (w.node (suc i)))
      (read_mapped view_at places i node no_view was) (s.nodes (suc i))))

  -- with the moved node in its place the group shows the world with its outcome
  moved_shows : (w : World) (outcome : Reply × Node) → Shows (shown size places) w
      → IsSameNode (memory_in node) (memory_in moved) → ShowsAt moved outcome.1
      → Shows (shown size (set places i moved)) (world_after w (suc i) outcome).1
  moved_shows w outcome s same v =
      subst (λ (views : List NodeView).
      Shows (record { size = size; nodes = views }) (world_after w (suc i) outcome).1)
      (sym (map-set view_at places i moved))
      (shows-after size (map view_at places) i (view_at moved) w outcome
      (subst (λ (k : ℕ). i < k) (sym (length-map places view_at))
      (read_within places i node was)) s
      (subst (λ (l : Limits). ShowsNode l (suc i) (view_at moved) outcome.1)
      (same.0 ∙ (numbered.limits ∙ s.size))
      (subst (λ (p : ℕ). ShowsNode (memory_in moved).limits p (view_at moved) outcome.1)
      (same.1 ∙ numbered.number) v)))

  module _ (event : Event) (outcome : Outcomes)
      (is : (w : World) → Shows (shown size places) w
      → step w event ≡ at_node w (suc i) (outcome w.size (suc i) (w.node (suc i)))) where
    abbrev outcome_in : World → Reply × Node
    outcome_in w = outcome w.size (suc i) (w.node (suc i))

    leads_in : (told : CallResult) → LeadsAt outcome node told moved → (w : World)
        → Shows (shown size places) w → Leads (outcome_in w) node told moved
    leads_in told leads w s =
        subst (λ (l : Limits). Leads (outcome l (suc i) (w.node (suc i))) node told moved)
        (numbered.limits ∙ s.size)
        (subst (λ (p : ℕ). Leads (outcome (memory_in node).limits p (w.node (suc i)))
        node told moved) numbered.number (leads (w.node (suc i)) (place_shows w s)))

    step_is : (w : World) → Shows (shown size places) w
        → step w event ≡ world_after w (suc i) (outcome_in w)
    step_is w s =
        is w s ∙ at_some_node w i (outcome_in w) (subst (λ (l : Limits). i < l.n) s.size below)

    same_node : (told : CallResult) → LeadsAt outcome node told moved
        → IsSameNode (memory_in node) (memory_in moved)
    same_node (Ok reply) leads =
        (leads_in (Ok reply) leads group.sound.world group.sound.shows).same
    same_node (Err r) leads =
        let stays : moved ≡ node =
        (leads_in (Err r) leads group.sound.world group.sound.shows).1 in (
          ap (λ (p : Place A). (memory_in p).limits) stays,
          ap (λ (p : Place A). (memory_in p).node) stays,
        )

    -- if it is refused, the group is the same
    unmoved : (r : Refusal) → LeadsAt outcome node (Err r) moved → set places i moved ≡ places
    unmoved r leads =
        ap (λ (p : Place A). set places i p)
        (leads_in (Err r) leads group.sound.world group.sound.shows).1 ∙ set_same places i node was

    shows_after : (reply : Reply) → LeadsAt outcome node (Ok reply) moved → (w : World)
        → Shows (shown size places) w → Shows (shown size (set places i moved)) (step w event).1
    shows_after reply leads w s =
        let l = leads_in (Ok reply) leads w s in
        subst (λ (o : Reply × World). Shows (shown size (set places i moved)) o.1)
        (sym (step_is w s)) (moved_shows w (outcome_in w) s l.same l.shows)

    -- if the node in one place moves as the event's outcome says, the event happens in every world
    -- that the group shows
    pub lifted : (told : CallResult) → LeadsAt outcome node told moved
        → StepsTo (shown size places) event told (shown size (set places i moved))
    lifted (Ok reply) leads = λ w s.
        happens (shown size places) (shown size (set places i moved)) event
        (λ r. r ≡ reply) w group.sound s
        (ap (λ (o : Reply × World). o.0) (step_is w s) ∙ (leads_in (Ok reply) leads w s).told)
        (shows_after reply leads w s)
    lifted (Err r) leads = (
      λ w s. subst (λ (o : Reply × World). IsRefusedAs o.0 r) (sym (step_is w s))
          (leads_in (Err r) leads w s).0,
      ap (λ (ps : List (Place A)). shown size ps) (unmoved r leads),
    )

    sound_after : (told : CallResult) → LeadsAt outcome node told moved
        → IsSound (shown size (set places i moved))
    sound_after (Ok reply) leads =
        sound-step (shown size places) (shown size (set places i moved)) event group.sound
        (shows_after reply leads)
    sound_after (Err r) leads =
        subst (λ (ps : List (Place A)). IsSound (shown size ps)) (sym (unmoved r leads)) group.sound

    -- the group is sound after the move, with each node in its place
    pub still_group : (told : CallResult) → LeadsAt outcome node told moved
        → IsGroup size (set places i moved)
    still_group told leads = record {
      placed = record {
        count = length-set places i moved ∙ group.placed.count;
        each = λ k n e. ⊎_elim
            (λ p. subst (λ (q : Place A). IsNumbered size k q) (sym p.1)
            (subst (λ (j : ℕ). IsNumbered size j moved) (sym p.0)
            (record { limits = same.0 ∙ numbered.limits; number = same.1 ∙ numbered.number })))
            (λ q. group.placed.each k n q) (read_after_write places i k moved n e);
      };
      sound = sound_after told leads;
    }
      where
        same : IsSameNode (memory_in node) (memory_in moved)
        same = same_node told leads

  -- the draft that is held in the place is held in the group
  pub holds_draft : (draft : Placed) → IsSameNode (memory_in node) (memory_in moved)
      → IsHeldAt moved draft → (draft.node ≡ suc i)
      × HoldsDraft (shown size (set places i moved)) draft
  holds_draft draft same held = over moved same held (slice_get_set)
    where
      slice_get_set : slice_index_or (map view_at (set places i moved)) i no_view ≡ view_at moved
      slice_get_set =
          ap (λ (vs : List NodeView). slice_index_or vs i no_view) (map-set view_at places i moved)
          ∙ get_or-set_same (map view_at places) i (view_at moved) no_view
          (subst (λ (k : ℕ). i < k) (sym (length-map places view_at))
          (read_within places i node was))

      over : (new : Place A) → IsSameNode (memory_in node) (memory_in new) → IsHeldAt new draft
          → slice_index_or (map view_at (set places i moved)) i no_view ≡ view_at new
          → (draft.node ≡ suc i) × HoldsDraft (shown size (set places i moved)) draft
      over (place.Ready a) same held e = absurd held
      over (place.Down f) same held e = absurd held
      over (place.Storing h) same held e =
          let number : draft.node ≡ suc i =
          ap (λ (d : Placed). d.node) held ∙ (same.1 ∙ numbered.number) in
          let there : Place A = place.Storing h in
          let at : view_of (shown size (set places i moved)) draft.node ≡ view_at there =
          ap (λ (p : ℕ). view_of (shown size (set places i moved)) p) number ∙ e in (
            number,
            record {
              cause = h.cause;
              state =
                  ap (λ (v : NodeView). v.state) at
                  ∙ ap (λ (d : Placed). Storing d.entry h.cause) (sym held);
              position =
                  ap (λ (d : Placed). d.pos) held ∙ ap (λ (v : NodeView). suc v.count) (sym at);
            },
          )
