-- A new node has a status.
use Rattle.urb_turn.proofs.Common.{None, Shows, ShowsNode, Some, [], four, limits, new_four}
use Rattle.urb_turn.proofs.Common.{no_view, opened_node, refl, status_of, suc, view_of, zero, ℕ}
use Rattle.urb_turn.proofs.Common.{◌≡◌}
use Rattle.urb_turn.proofs.worked.turn_ends.statuses_that_end.Goals as goal

new_node : (p : ℕ) → ShowsNode (limits 4 10) p no_view (opened_node p [])
new_node p = record {
  pairs = λ x m. refl;
  certified = λ x. refl;
  log = refl;
  count = refl;
  state = refl;
  cursor = refl;
  acks = λ x q e. refl;
  heard = λ x q. refl;
  rules = tt;
  broadcast = refl;
}

-- a new group shows a new world
shows_new : Shows new_four four
shows_new = record { size = refl; nodes = at }
  where
    at : (p : ℕ) → ShowsNode (limits 4 10) p (view_of new_four p) (opened_node p [])
    at zero = new_node zero
    at (suc before) = new_node (suc before)

no-status : None ≡ Some (status_of four 1) → ⊥
no-status e = cc

pub returns-clause-of_a_node_that_is_there : goal.returns-clause-of_a_node_that_is_there
returns-clause-of_a_node_that_is_there c e = no-status (e.1 four shows_new)
