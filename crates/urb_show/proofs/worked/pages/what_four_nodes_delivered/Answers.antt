-- A new group has delivered nothing, and no world is shown by a group that shows none.
use Rattle.urb_show.proofs.Common.{List, Shows, ShowsNode, World, [], arith, length, limits, log}
use Rattle.urb_show.proofs.Common.{name, new_four, no_view, opened_node, refl, run, shows_none}
use Rattle.urb_show.proofs.Common.{started, stored, suc, view_of, zero, ℕ, ◌∷◌, ◌≡◌}
use Rattle.urb_stable.specs.Entries.{Entry}
use Rattle.urb_show.proofs.worked.pages.what_four_nodes_delivered.Goals as goal

some-none : {A : Type 0} (x : A) (xs : List A) → x ∷ xs ≡ [] → ⊥
some-none x xs e = cc

new_node : (p : ℕ) → ShowsNode (limits 4 10) p no_view (opened_node p [])
new_node p = record {
  pairs = λ x m. refl;
  certified = λ x. refl;
  log = refl;
  count = refl;
  state = refl;
  cursor = refl;
  acks = λ x q e. refl;
  heard = λ x q. refl;
  rules = tt;
  broadcast = refl;
}

-- a new group shows a new world
shows_new : Shows new_four (started (limits 4 10))
shows_new = record { size = refl; nodes = at }
  where
    at : (p : ℕ) → ShowsNode (limits 4 10) p (view_of new_four p) (opened_node p [])
    at zero = new_node zero
    at (suc before) = new_node (suc before)

no_name : (records : List Entry) → 0 ≡ length records → name 1 1 ∷ [] ≡ log records → ⊥
no_name [] count logged = cc
no_name (r ∷ records) count logged = omega (arith, count)

-- the group shows no world
no_world : (w : World) → Shows shows_none w → ⊥
no_world w shows = let node = shows.nodes 1 in no_name (stored w 1) node.count node.log

pub returns-clause-nothing : goal.returns-clause-nothing
returns-clause-nothing c zero = ([], refl)
returns-clause-nothing c (suc place) = ([], refl)

pub returns-clause-no_entry : goal.returns-clause-no_entry
returns-clause-no_entry c have = some-none _ _ (have 0).1

pub returns-clause-no_entry_by_a_new_group : goal.returns-clause-no_entry_by_a_new_group
unfolding run
returns-clause-no_entry_by_a_new_group c are =
    let begins = are (started (limits 4 10)) shows_new 0 in some-none _ _ begins.1

pub returns-clause-anything_by_none : goal.returns-clause-anything_by_none
returns-clause-anything_by_none c w shows = absurd (no_world w shows)
