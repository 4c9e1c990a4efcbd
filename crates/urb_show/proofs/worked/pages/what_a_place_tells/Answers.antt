-- What stands at a place, and what it gets there.
use Rattle.urb_show.proofs.Common.{Crash, List, None, Refused, Sent, Shows, ShowsNode, Some, Tick}
use Rattle.urb_show.proofs.Common.{World, [], arith, length, limits, log, name, new_four, no_view}
use Rattle.urb_show.proofs.Common.{opened_node, refl, run, shows_none, started, stored, suc, told}
use Rattle.urb_show.proofs.Common.{view_of, zero, ℕ, ◌∷◌, ◌≡◌}
use Rattle.urb_world.specs.Step.{step}
use Rattle.urb_stable.specs.Entries.{Entry}
use Rattle.urb_names.specs.declared.refusal.Refusal.TheVariants as refusal
use Rattle.urb_show.proofs.worked.pages.what_a_place_tells.Goals as goal

new_node : (p : ℕ) → ShowsNode (limits 4 10) p no_view (opened_node p [])
new_node p = record {
  pairs = λ x m. refl;
  certified = λ x. refl;
  log = refl;
  count = refl;
  state = refl;
  cursor = refl;
  acks = λ x q e. refl;
  heard = λ x q. refl;
  rules = tt;
  broadcast = refl;
}

-- a new group shows a new world
shows_new : Shows new_four (started (limits 4 10))
shows_new = record { size = refl; nodes = at }
  where
    at : (p : ℕ) → ShowsNode (limits 4 10) p (view_of new_four p) (opened_node p [])
    at zero = new_node zero
    at (suc before) = new_node (suc before)

no_name : (records : List Entry) → 0 ≡ length records → name 1 1 ∷ [] ≡ log records → ⊥
no_name [] count logged = cc
no_name (r ∷ records) count logged = omega (arith, count)

-- the group shows no world
no_world : (w : World) → Shows shows_none w → ⊥
no_world w shows = let node = shows.nodes 1 in no_name (stored w 1) node.count node.log

other_event : Some (Tick 1) ≡ Some (Crash 1) → ⊥
other_event e = cc

other_reply : Sent [] ≡ Refused refusal.Down → ⊥
other_reply e = cc

no_event : None ≡ Some (Tick 1) → ⊥
no_event e = cc

pub returns-clause-from_no_world : goal.returns-clause-from_no_world
returns-clause-from_no_world c = record { stands = refl; told = λ w shows. absurd (no_world w shows) }

pub returns-clause-another_event : goal.returns-clause-another_event
returns-clause-another_event c tells = other_event tells.stands

pub returns-clause-another_reply : goal.returns-clause-another_reply
unfolding step run
returns-clause-another_reply c tells = other_reply (tells.told (started (limits 4 10)) shows_new)

pub returns-clause-what_is_recorded : goal.returns-clause-what_is_recorded
returns-clause-what_is_recorded c = record { stands = refl; told = λ w shows. absurd (no_world w shows) }

pub returns-clause-what_is_not_recorded : goal.returns-clause-what_is_not_recorded
returns-clause-what_is_not_recorded c tells = no_event tells.stands
