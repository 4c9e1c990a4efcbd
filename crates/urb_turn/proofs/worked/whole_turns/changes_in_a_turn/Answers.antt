-- What a new node, and a group that shows no world, do in a turn.
use Rattle.urb_turn.proofs.Common.{Down, Entry, List, None, Ready, Refusal, Refused, Shows}
use Rattle.urb_turn.proofs.Common.{ShowsNode, Up, WentDown, World, [], arith, four, length, limits}
use Rattle.urb_turn.proofs.Common.{log, name, new_four, no_view, opened_node, refl, shows_none}
use Rattle.urb_turn.proofs.Common.{step, suc, view_of, zero, ℕ, ◌∷◌, ◌≡◌}
use Rattle.urb_world.specs.World.{stored}
use Rattle.urb_stable.specs.declared.stable.StoreFault.TheVariants as fault
use Rattle.urb_turn.proofs.worked.whole_turns.changes_in_a_turn.Goals as goal

new_node : (p : ℕ) → ShowsNode (limits 4 10) p no_view (opened_node p [])
new_node p = record {
  pairs = λ x m. refl;
  certified = λ x. refl;
  log = refl;
  count = refl;
  state = refl;
  cursor = refl;
  acks = λ x q e. refl;
  heard = λ x q. refl;
  rules = tt;
  broadcast = refl;
}

-- a new group shows a new world
shows_new : Shows new_four four
shows_new = record { size = refl; nodes = at }
  where
    at : (p : ℕ) → ShowsNode (limits 4 10) p (view_of new_four p) (opened_node p [])
    at zero = new_node zero
    at (suc before) = new_node (suc before)

no_name : (records : List Entry) → 0 ≡ length records → name 1 1 ∷ [] ≡ log records → ⊥
no_name [] count logged = cc
no_name (r ∷ records) count logged = omega (arith, count)

-- the group shows no world
no_world : (w : World) → Shows shows_none w → ⊥
no_world w shows = let node = shows.nodes 1 in no_name (stored w 1) node.count node.log

refused-down : (r : Refusal) (p : ℕ) → Refused r ≡ WentDown p → ⊥
refused-down r p e = cc

refused-up : (r : Refusal) (p : ℕ) → Refused r ≡ Up p → ⊥
refused-up r p e = cc

pub returns-clause-a_failure : goal.returns-clause-a_failure
returns-clause-a_failure c = (fault.Device, refl, λ w shows. absurd (no_world w shows))

pub returns-clause-a_failure_of_a_new_node : goal.returns-clause-a_failure_of_a_new_node
unfolding step
returns-clause-a_failure_of_a_new_node c (it, is, fails) = refused-down _ _ (fails four shows_new).told

pub returns-clause-a_crash : goal.returns-clause-a_crash
returns-clause-a_crash c w shows = absurd (no_world w shows)

up-down : Ready ≡ Down None → ⊥
up-down e = cc

pub returns-clause-a_crash_of_a_node_that_stays_up : goal.returns-clause-a_crash_of_a_node_that_stays_up
unfolding step
returns-clause-a_crash_of_a_node_that_stays_up c goes =
    up-down ((goes four shows_new).shows.nodes 1).state

pub returns-clause-a_return : goal.returns-clause-a_return
returns-clause-a_return c = ([], λ w shows. absurd (no_world w shows))

pub returns-clause-a_return_of_a_new_node : goal.returns-clause-a_return_of_a_new_node
unfolding step
returns-clause-a_return_of_a_new_node c (image, comes) = refused-up _ _ (comes four shows_new).told
