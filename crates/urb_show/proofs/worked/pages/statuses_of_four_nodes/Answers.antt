-- What a new group tells of its node 1.
use Rattle.urb_show.proofs.Common.{List, None, Shows, ShowsNode, Some, World, [], arith, length}
use Rattle.urb_show.proofs.Common.{limits, log, name, new_four, no_view, opened_node, refl}
use Rattle.urb_show.proofs.Common.{shows_none, started, stored, suc, view_of, zero, ℕ, ◌∷◌, ◌≡◌}
use Rattle.urb_show.specs.Statuses.{status_of}
use Rattle.urb_stable.specs.Entries.{Entry}
use Rattle.urb_show.proofs.worked.pages.statuses_of_four_nodes.Goals as goal

new_node : (p : ℕ) → ShowsNode (limits 4 10) p no_view (opened_node p [])
new_node p = record {
  pairs = λ x m. refl;
  certified = λ x. refl;
  log = refl;
  count = refl;
  state = refl;
  cursor = refl;
  acks = λ x q e. refl;
  heard = λ x q. refl;
  rules = tt;
  broadcast = refl;
}

-- a new group shows a new world
shows_new : Shows new_four (started (limits 4 10))
shows_new = record { size = refl; nodes = at }
  where
    at : (p : ℕ) → ShowsNode (limits 4 10) p (view_of new_four p) (opened_node p [])
    at zero = new_node zero
    at (suc before) = new_node (suc before)

no_name : (records : List Entry) → 0 ≡ length records → name 1 1 ∷ [] ≡ log records → ⊥
no_name [] count logged = cc
no_name (r ∷ records) count logged = omega (arith, count)

-- the group shows no world
no_world : (w : World) → Shows shows_none w → ⊥
no_world w shows = let node = shows.nodes 1 in no_name (stored w 1) node.count node.log

no_status : None ≡ Some (status_of (started (limits 4 10)) 1) → ⊥
no_status e = cc

pub returns-clause-of_no_world : goal.returns-clause-of_no_world
returns-clause-of_no_world c w shows = absurd (no_world w shows)

pub returns-clause-no_status_of_a_node : goal.returns-clause-no_status_of_a_node
returns-clause-no_status_of_a_node c tells = no_status (tells (started (limits 4 10)) shows_new)
