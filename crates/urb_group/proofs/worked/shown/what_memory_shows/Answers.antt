-- What shows a node, and what shows a new world.
use Rattle.urb_group.proofs.Common.{Bool, KeepsOwn, Limits, ShowsNode, [], false, no_view}
use Rattle.urb_group.proofs.Common.{opened_node, refl, suc, true, view_of, zero, ℕ, ◌&&◌, ◌||◌, ◌≡◌}
use Rattle.urb_world.specs.internal.Examples.{limits, seen_node, seen_view}
use Rattle.urb_group.proofs.worked.shown.what_memory_shows.Goals as goal

-- what is counted for another name than the certified one
others : (same counted other : Bool) → (same || false) ≡ false
    → other ≡ ((same && counted) || other)
others true counted other e = cc
others false counted other e = refl

shows : (size : Limits) → KeepsOwn size 1 [] seen_node.records
    → ShowsNode size 1 seen_view seen_node
shows size keeps = record {
  pairs = λ x m. refl;
  certified = λ x. refl;
  log = refl;
  count = refl;
  state = refl;
  cursor = refl;
  acks = λ x q e. others _ _ _ e;
  heard = λ x q. refl;
  rules = keeps;
  broadcast = refl;
}

new_node : (size : Limits) (p : ℕ) → ShowsNode size p no_view (opened_node p [])
new_node size p = record {
  pairs = λ x m. refl;
  certified = λ x. refl;
  log = refl;
  count = refl;
  state = refl;
  cursor = refl;
  acks = λ x q e. refl;
  heard = λ x q. refl;
  rules = tt;
  broadcast = refl;
}

pub returns-clause-a_node_of_seven : goal.returns-clause-a_node_of_seven
returns-clause-a_node_of_seven c = shows (limits 7 10) (refl, refl, (refl, refl, tt))

pub returns-clause-a_node_of_four : goal.returns-clause-a_node_of_four
returns-clause-a_node_of_four c = shows (limits 4 10) (refl, refl, (refl, refl, tt))

pub returns-clause-a_node_of_three : goal.returns-clause-a_node_of_three
returns-clause-a_node_of_three c = shows (limits 3 10) (refl, refl, (refl, refl, tt))

pub returns-clause-new_groups : goal.returns-clause-new_groups
returns-clause-new_groups c n cap = record {
  size = refl;
  nodes = λ p. by_place n cap p;
}
  where
    by_place : (n cap p : ℕ)
        → ShowsNode (limits n cap) p
        (view_of (record { size = limits n cap; nodes = [] }) p) (opened_node p [])
    by_place n cap zero = new_node (limits n cap) zero
    by_place n cap (suc before) = new_node (limits n cap) (suc before)
