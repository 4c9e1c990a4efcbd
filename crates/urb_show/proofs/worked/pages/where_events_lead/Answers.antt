-- Events lead from what a group shows.
use Rattle.urb_show.proofs.Common.{List, Shows, ShowsNode, World, [], arith, length, limits, log}
use Rattle.urb_show.proofs.Common.{name, new_four, no_view, opened_node, refl, run, shows_none}
use Rattle.urb_show.proofs.Common.{started, stored, suc, view_of, zero, ℕ, ◌∷◌, ◌≡◌}
use Rattle.urb_stable.specs.Entries.{Entry}
use Rattle.urb_show.proofs.worked.pages.where_events_lead.Goals as goal

new_node : (p : ℕ) → ShowsNode (limits 4 10) p no_view (opened_node p [])
new_node p = record {
  pairs = λ x m. refl;
  certified = λ x. refl;
  log = refl;
  count = refl;
  state = refl;
  cursor = refl;
  acks = λ x q e. refl;
  heard = λ x q. refl;
  rules = tt;
  broadcast = refl;
}

-- a new group shows a new world
shows_new : Shows new_four (started (limits 4 10))
shows_new = record { size = refl; nodes = at }
  where
    at : (p : ℕ) → ShowsNode (limits 4 10) p (view_of new_four p) (opened_node p [])
    at zero = new_node zero
    at (suc before) = new_node (suc before)

no_name : (records : List Entry) → 0 ≡ length records → name 1 1 ∷ [] ≡ log records → ⊥
no_name [] count logged = cc
no_name (r ∷ records) count logged = omega (arith, count)

-- the group shows no world
no_world : (w : World) → Shows shows_none w → ⊥
no_world w shows = let node = shows.nodes 1 in no_name (stored w 1) node.count node.log

pub returns-clause-from_no_world : goal.returns-clause-from_no_world
returns-clause-from_no_world c w shows = absurd (no_world w shows)

pub returns-clause-to_no_world : goal.returns-clause-to_no_world
returns-clause-to_no_world c leads = no_world _ (leads (started (limits 4 10)) shows_new)

pub returns-clause-to_a_reached_world : goal.returns-clause-to_a_reached_world
unfolding run
returns-clause-to_a_reached_world c w shows reached = reached
