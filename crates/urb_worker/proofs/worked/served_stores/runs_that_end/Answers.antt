-- Runs of no events, and stores that never matched.
use Rattle.std.proofs.Common.{Bool, List, None, [], arith, eqb-true, false, length, refl, slice_index_or, subst, suc, sym, true, zero, ℕ, ⊎_elim, ◌==◌, ◌∙◌, ◌∷◌, ◌≡◌}
use Rattle.std.proofs.lemmas.Bool.{cond-false, false≢true}
use Rattle.urb_world.proofs.steps.DraftsInSteps.{step-size}
use Rattle.urb_world.proofs.steps.Runs.{new-kept}
use Rattle.urb_world.proofs.steps.StepCases.{outcome_of, step-cases}
use Rattle.urb_world.specs.EventEffects.{event_node}
use Rattle.urb_group.specs.GroupViews.{Shows, view_of}
use Rattle.urb_world.specs.RecoveryPlans.{after}
use Rattle.urb_world.specs.Step.{Event, run, step}
use Rattle.urb_world.specs.World.{World, stored}
use Rattle.urb_world.specs.internal.Examples.{limits}
use Rattle.urb_names.specs.LabelsAndContents.{Limits}
use Rattle.urb_names.specs.Names.{name}
use Rattle.urb_names.specs.Nodes.{is_node}
use Rattle.urb_node.specs.NodeViews.{NodeView, ShowsNode, no_view}
use Rattle.urb_node.specs.Part.{Down, Node, Ready, opened_node}
use Rattle.urb_node.specs.Replies.{Reply}
use Rattle.urb_show.specs.internal.ReaderExamples.{new_four, shows_none}
use Rattle.urb_stable.specs.DeliveredLogs.{log}
use Rattle.urb_stable.specs.Entries.{Entry}
use Rattle.urb_stable.specs.MemoryStores.{empty_memory}
use Rattle.urb_turn.specs.NodeStores.{IsStoreAfter}
use Rattle.urb_turn.specs.internal.TurnExamples.{four, four_views, lying, with_a_fifth}
use Rattle.urb_worker.proofs.worked.served_stores.runs_that_end.Goals as goal

new_node : (p : ℕ) → ShowsNode (limits 4 10) p no_view (opened_node p [])
new_node p = record {
  pairs = λ x m. refl;
  certified = λ x. refl;
  log = refl;
  count = refl;
  state = refl;
  cursor = refl;
  acks = λ x q e. refl;
  heard = λ x q. refl;
  rules = tt;
  broadcast = refl;
}

-- a new group shows a new world
shows_new : Shows new_four four
shows_new = record { size = refl; nodes = at }
  where
    at : (p : ℕ) → ShowsNode (limits 4 10) p (view_of new_four p) (opened_node p [])
    at zero = new_node zero
    at (suc before) = new_node (suc before)

no_name : (records : List Entry) → 0 ≡ length records → name 1 1 ∷ [] ≡ log records → ⊥
no_name [] count logged = cc
no_name (r ∷ records) count logged = omega (arith, count)

-- the group shows no world
no_world : (w : World) → Shows shows_none w → ⊥
no_world w shows = let node = shows.nodes 1 in no_name (stored w 1) node.count node.log

-- four views of new nodes show what a new group shows
shows_views : (w : World) → Shows new_four w → Shows four_views w
shows_views w shows = record { size = shows.size; nodes = at }
  where
    at : (p : ℕ) → ShowsNode w.size p (view_of four_views p) (w.node p)
    at zero = shows.nodes 0
    at (suc zero) = shows.nodes 1
    at (suc (suc zero)) = shows.nodes 2
    at (suc (suc (suc zero))) = shows.nodes 3
    at (suc (suc (suc (suc zero)))) = shows.nodes 4
    at (suc (suc (suc (suc (suc more))))) = shows.nodes (suc (suc (suc (suc (suc more)))))

-- a store that isn't honest matches no node
never : (start : World) (past : List Event) → IsStoreAfter lying start past 1 empty_memory → ⊥
never start past h = ⊎_elim (λ honest. honest) (λ shut. shut.0) (h.lasting.known tt)

pub returns-clause-in_a_group_that_shows_no_world : goal.returns-clause-in_a_group_that_shows_no_world
returns-clause-in_a_group_that_shows_no_world c = record {
  history = [];
  group = four_views;
  sound = record {
    world = four;
    shows = shows_views four shows_new;
    kept = new-kept (limits 4 10);
  };
  nodes = refl;
  size = refl;
  leads = λ w shows. absurd (no_world w shows);
  stores = λ start shows firsts. absurd (no_world start shows);
}

pub returns-clause-with_stores_that_never_matched : goal.returns-clause-with_stores_that_never_matched
unfolding run
returns-clause-with_stores_that_never_matched c = record {
  history = [];
  group = four_views;
  sound = record {
    world = four;
    shows = shows_views four shows_new;
    kept = new-kept (limits 4 10);
  };
  nodes = refl;
  size = refl;
  leads = shows_views;
  stores = λ start shows firsts. absurd (never start [] firsts.0);
}

pub returns-clause-with_a_store_that_does_not_match : goal.returns-clause-with_a_store_that_does_not_match
returns-clause-with_a_store_that_does_not_match c h = never four h.history (h.stores four shows_new tt).0

-- a fifth node, which is down
abbrev down_node : Node
down_node = record (opened_node 5 []) { state = Down None }

-- the nodes of a world of four that holds it
abbrev five_at : ℕ → Node
five_at (suc (suc (suc (suc (suc zero))))) = down_node
five_at p = opened_node p []

abbrev five : World
five = record four { node = five_at }

fifth_node : ShowsNode (limits 4 10) 5 (record no_view { state = Down None }) down_node
fifth_node = record {
  pairs = λ x m. refl;
  certified = λ x. refl;
  log = refl;
  count = refl;
  state = refl;
  cursor = refl;
  acks = λ x q e. refl;
  heard = λ x q. refl;
  rules = tt;
  broadcast = refl;
}

shows_five : Shows with_a_fifth five
shows_five = record { size = refl; nodes = at }
  where
    at : (p : ℕ) → ShowsNode (limits 4 10) p (view_of with_a_fifth p) (five.node p)
    at zero = new_node 0
    at (suc zero) = new_node 1
    at (suc (suc zero)) = new_node 2
    at (suc (suc (suc zero))) = new_node 3
    at (suc (suc (suc (suc zero)))) = new_node 4
    at (suc (suc (suc (suc (suc zero))))) = fifth_node
    at (suc (suc (suc (suc (suc (suc more)))))) = new_node (suc (suc (suc (suc (suc (suc more))))))

-- a node of four isn't the fifth one
not-fifth : (q : ℕ) → is_node 4 q ≡ true → (5 == q) ≡ false
not-fifth q is = at (5 == q) refl
  where
    at : (b : Bool) → (5 == q) ≡ b → (5 == q) ≡ false
    at true e =
        absurd (false≢true (subst (λ (k : ℕ). is_node 4 k ≡ true) (sym (eqb-true 5 q e)) is))
    at false e = e

-- no event of a group of four changes a fifth node
fifth-stays : (w : World) (event : Event) → w.size ≡ limits 4 10
    → (step w event).1.node 5 ≡ w.node 5
fifth-stays w event size =
    step-cases (λ (o : Reply × World). o.1.node 5 ≡ w.node 5) w event (λ _. refl)
    (λ is. cond-false (5 == event_node event) (outcome_of w event).1 (w.node 5)
    (not-fifth (event_node event)
    (subst (λ (it : Limits). is_node it.n (event_node event) ≡ true) size is)))

always : (w : World) (history : List Event) → w.size ≡ limits 4 10
    → (after w history).node 5 ≡ w.node 5
unfolding run
always w [] size = refl
always w (event ∷ history) size =
    always (step w event).1 history (step-size w event ∙ size) ∙ fifth-stays w event size

-- a list of four has no fifth entry
no-fifth : (views : List NodeView) → length views ≡ 4 → slice_index_or views 4 no_view ≡ no_view
no-fifth [] e = refl
no-fifth (a ∷ []) e = refl
no-fifth (a ∷ b ∷ []) e = refl
no-fifth (a ∷ b ∷ c ∷ []) e = refl
no-fifth (a ∷ b ∷ c ∷ d ∷ []) e = refl
no-fifth (a ∷ b ∷ c ∷ d ∷ x ∷ views) e = absurd (omega (arith, e))

up-down : Ready ≡ Down None → ⊥
up-down e = cc

pub returns-clause-with_a_node_too_many : goal.returns-clause-with_a_node_too_many
returns-clause-with_a_node_too_many c h =
    let shown = (h.leads five shows_five).nodes 5 in
    up-down (subst (λ (it : Node). Ready ≡ it.state) (always five h.history refl)
    (subst (λ (it : NodeView). it.state ≡ ((after five h.history).node 5).state)
    (no-fifth h.group.nodes h.nodes) shown.state))
