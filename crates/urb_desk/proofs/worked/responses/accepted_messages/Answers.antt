-- What is stored at the opening, and what is not.
use Rattle.urb_desk.proofs.Common.{AreImages, Event, HasAccepted, HasStored, IsSound, List, Shows}
use Rattle.urb_desk.proofs.Common.{ShowsNode, [], after, false, four, image_of, limits, message}
use Rattle.urb_desk.proofs.Common.{name, new_four, no_view, opened, opened-kept, opened_node}
use Rattle.urb_desk.proofs.Common.{pending, refl, rules, run, stored_four, subst, suc, sym, true}
use Rattle.urb_desk.proofs.Common.{view_of, zero, ℕ, ◌++◌, ◌∷◌, ◌≡◌}
use Rattle.urb_stable.specs.Entries.{Entry}
use Rattle.urb_desk.proofs.worked.responses.accepted_messages.Goals as goal

new_node : (p : ℕ) → ShowsNode (limits 4 10) p no_view (opened_node p [])
new_node p = record {
  pairs = λ x m. refl;
  certified = λ x. refl;
  log = refl;
  count = refl;
  state = refl;
  cursor = refl;
  acks = λ x q e. refl;
  heard = λ x q. refl;
  rules = tt;
  broadcast = refl;
}

-- a new group shows a new world
shows_new : Shows new_four four
shows_new = record { size = refl; nodes = at }
  where
    at : (p : ℕ) → ShowsNode (limits 4 10) p (view_of new_four p) (opened_node p [])
    at zero = new_node zero
    at (suc before) = new_node (suc before)

first_node : ShowsNode (limits 4 10) 1 (view_of stored_four 1) (opened_node 1 (pending 1 1 ∷ []))
first_node = record {
  pairs = λ x m. refl;
  certified = λ x. refl;
  log = refl;
  count = refl;
  state = refl;
  cursor = refl;
  acks = λ x q e. refl;
  heard = λ x q. refl;
  rules = (refl, refl, tt);
  broadcast = refl;
}

abbrev images : List (List Entry)
images = (pending 1 1 ∷ []) ∷ [] ∷ [] ∷ [] ∷ []

-- a group whose node 1 has stored its first message shows a world in which it has
shows_stored : Shows stored_four (opened (limits 4 10) (image_of images))
shows_stored = record { size = refl; nodes = at }
  where
    at : (p : ℕ) → ShowsNode (limits 4 10) p (view_of stored_four p)
        (opened_node p (image_of images p))
    at zero = new_node zero
    at (suc zero) = first_node
    at (suc (suc zero)) = new_node 2
    at (suc (suc (suc zero))) = new_node 3
    at (suc (suc (suc (suc zero)))) = new_node 4
    at (suc (suc (suc (suc (suc more))))) = new_node (suc (suc (suc (suc (suc more)))))

are : AreImages (limits 4 10) images
are = search rules

sound_stored : IsSound stored_four
sound_stored = record {
  world = opened (limits 4 10) (image_of images);
  shows = shows_stored;
  kept = opened-kept (limits 4 10) images are refl;
}

accepted : HasAccepted stored_four [] [] 1 (message 7 1 "") 1
unfolding run
accepted = record {
  sound = sound_stored;
  past = [];
  behind = ([], refl);
  within = ([], refl);
  stored = λ w shows. (refl, sym ((shows.nodes 1).pairs (name 1 1) (message 7 1 "")));
}

-- events that are none, and records that are none
no-event : (past rest : List Event) → past ++ rest ≡ [] → past ≡ []
no-event [] rest e = refl
no-event (event ∷ past) rest e = cc

false-true : false ≡ true → ⊥
false-true e = cc

-- by no event a new node has stored nothing
not-accepted : HasAccepted new_four [] [] 1 (message 7 1 "") 1 → ⊥
unfolding run
not-accepted h =
    let none : h.past ≡ [] = no-event h.past h.within.0 h.within.1 in
    false-true (subst (λ past. HasStored (after four past) 1 (name 1 1) (message 7 1 "")) none
    (h.stored four shows_new)).1

pub returns-clause-stored_at_the_opening : goal.returns-clause-stored_at_the_opening
returns-clause-stored_at_the_opening c = accepted

pub returns-clause-stored_by_no_event : goal.returns-clause-stored_by_no_event
returns-clause-stored_by_no_event c h = not-accepted h
