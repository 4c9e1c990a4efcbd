-- What is told of a new node, and of one that has stored its message.
use Rattle.urb_desk.proofs.Common.{AreImages, Carried, Content, Crash, Down, Event, HasAccepted}
use Rattle.urb_desk.proofs.Common.{HasCrashed, HasRestarted, HasStored, IsLedTo, IsSound, Label}
use Rattle.urb_desk.proofs.Common.{Limits, List, Node, None, Option, Ready, Refused, Restart, Shows}
use Rattle.urb_desk.proofs.Common.{ShowsNode, Some, Status, TellsStatus, Up, WasSo, WentDown, World}
use Rattle.urb_desk.proofs.Common.{[], after, ap, arith, comes_up, crashes, doubt, false, four}
use Rattle.urb_desk.proofs.Common.{goes_down, if◌then◌else◌, image_of, is_down, is_node, length}
use Rattle.urb_desk.proofs.Common.{limits, log, message, name, new-kept, new_four, new_status}
use Rattle.urb_desk.proofs.Common.{no_view, opened, opened-kept, opened_node, own, pend, pending}
use Rattle.urb_desk.proofs.Common.{refl, refuses, restarts, rules, run, says, state_of, step}
use Rattle.urb_desk.proofs.Common.{stored, stored_four, subst, suc, sym, told_state, true, view_of}
use Rattle.urb_desk.proofs.Common.{world_after, zero, ℕ, ◌++◌, ◌∷◌, ◌≡◌}
use Rattle.urb_group.specs.declared.state.State.{State as Reported}
use Rattle.urb_node.specs.Part.{State}
use Rattle.urb_stable.specs.Entries.{Entry}
use Rattle.urb_client.specs.declared.response.NodeState.TheVariants as told
use Rattle.urb_group.specs.declared.state.State.TheVariants as state
use Rattle.urb_names.specs.declared.refusal.Refusal.TheVariants as refusal
use Rattle.urb_desk.proofs.worked.responses.what_responses_tell.Goals as goal

new_node : (p : ℕ) → ShowsNode (limits 4 10) p no_view (opened_node p [])
new_node p = record {
  pairs = λ x m. refl;
  certified = λ x. refl;
  log = refl;
  count = refl;
  state = refl;
  cursor = refl;
  acks = λ x q e. refl;
  heard = λ x q. refl;
  rules = tt;
  broadcast = refl;
}

-- a new group shows a new world
shows_new : Shows new_four four
shows_new = record { size = refl; nodes = at }
  where
    at : (p : ℕ) → ShowsNode (limits 4 10) p (view_of new_four p) (opened_node p [])
    at zero = new_node zero
    at (suc before) = new_node (suc before)

-- a new group shows a world that keeps the rules
sound : IsSound new_four
sound = record { world = four; shows = shows_new; kept = new-kept (limits 4 10) }

first_node : ShowsNode (limits 4 10) 1 (view_of stored_four 1) (opened_node 1 (pending 1 1 ∷ []))
first_node = record {
  pairs = λ x m. refl;
  certified = λ x. refl;
  log = refl;
  count = refl;
  state = refl;
  cursor = refl;
  acks = λ x q e. refl;
  heard = λ x q. refl;
  rules = (refl, refl, tt);
  broadcast = refl;
}

abbrev images : List (List Entry)
images = (pending 1 1 ∷ []) ∷ [] ∷ [] ∷ [] ∷ []

-- a group whose node 1 has stored its first message shows a world in which it has
shows_stored : Shows stored_four (opened (limits 4 10) (image_of images))
shows_stored = record { size = refl; nodes = at }
  where
    at : (p : ℕ) → ShowsNode (limits 4 10) p (view_of stored_four p)
        (opened_node p (image_of images p))
    at zero = new_node zero
    at (suc zero) = first_node
    at (suc (suc zero)) = new_node 2
    at (suc (suc (suc zero))) = new_node 3
    at (suc (suc (suc (suc zero)))) = new_node 4
    at (suc (suc (suc (suc (suc more))))) = new_node (suc (suc (suc (suc (suc more)))))

are : AreImages (limits 4 10) images
are = search rules

sound_stored : IsSound stored_four
sound_stored = record {
  world = opened (limits 4 10) (image_of images);
  shows = shows_stored;
  kept = opened-kept (limits 4 10) images are refl;
}

accepted : HasAccepted stored_four [] [] 1 (message 7 1 "") 1
unfolding run
accepted = record {
  sound = sound_stored;
  past = [];
  behind = ([], refl);
  within = ([], refl);
  stored = λ w shows. (refl, sym ((shows.nodes 1).pairs (name 1 1) (message 7 1 "")));
}

-- events that are none, and records that are none
no-event : (past rest : List Event) → past ++ rest ≡ [] → past ≡ []
no-event [] rest e = refl
no-event (event ∷ past) rest e = cc

false-true : false ≡ true → ⊥
false-true e = cc

-- by no event a new node has stored nothing
not-accepted : HasAccepted new_four [] [] 1 (message 7 1 "") 1 → ⊥
unfolding run
not-accepted h =
    let none : h.past ≡ [] = no-event h.past h.within.0 h.within.1 in
    false-true (subst (λ past. HasStored (after four past) 1 (name 1 1) (message 7 1 "")) none
    (h.stored four shows_new)).1

no-record : (records : List Entry) → 0 ≡ length records → records ≡ []
no-record [] e = refl
no-record (r ∷ records) e = absurd (omega (arith, e))

told-of : (size : Limits) (st : State) (own : List Content) (logged : List Label)
    → limits 4 10 ≡ size → Ready ≡ st → [] ≡ own → [] ≡ logged
    → Some new_status ≡ (if is_node size.n 1 then Some (record {
      state = state_of st;
      own = length own;
      logged = length logged;
    }) else None)
told-of size st own logged a b c d =
    subst (λ (it : Limits). Some new_status ≡ (if is_node it.n 1 then Some (record {
      state = state_of st;
      own = length own;
      logged = length logged;
    }) else None)) a
    (subst (λ (it : State). Some new_status ≡ Some (record {
      state = state_of it;
      own = length own;
      logged = length logged;
    })) b
    (subst (λ (it : List Content). Some new_status ≡ Some (record {
      state = state.Ready;
      own = length it;
      logged = length logged;
    })) c
    (subst (λ (it : List Label). Some new_status ≡ Some (record {
      state = state.Ready;
      own = 0;
      logged = length it;
    })) d refl)))

-- the status of node 1 of each world that a new group shows
tells-new : TellsStatus new_four 1 (Some new_status)
tells-new w shows =
    let node = shows.nodes 1 in
    let none : (w.node 1).records ≡ [] = no-record (w.node 1).records node.count in
    told-of w.size (w.node 1).state (w.node 1).broadcast (log (stored w 1)) shows.size node.state
    (sym (subst (λ records. (w.node 1).broadcast ≡ own 1 (pend records)) none node.broadcast))
    node.log

ready : WasSo new_four [] [] 1 told.Ready 0 0
unfolding run
ready = record {
  sound = sound;
  past = [];
  behind = ([], refl);
  within = ([], refl);
  group = new_four;
  leads = λ w shows. shows;
  status = new_status;
  tells = tells-new;
  told = refl;
}

abbrev state_in : Option Status → Reported
state_in (Some status) = status.state
state_in None = state.Storing

down-up : told.Down ≡ told.Ready → ⊥
down-up e = cc

not-down : WasSo new_four [] [] 1 told.Down 0 0 → ⊥
unfolding run
not-down h =
    let none : h.past ≡ [] = no-event h.past h.within.0 h.within.1 in
    let shows = subst (λ past. IsLedTo new_four past h.group) none h.leads four shows_new in
    let is : h.status.state ≡ state.Ready = ap state_in (h.tells four shows) in
    let said : told.Down ≡ told_state h.status.state = cc in
    down-up (subst (λ it. told.Down ≡ told_state it) is said)

crash-told : (w : World) (size : Limits) (st : State) → limits 4 10 ≡ size → Ready ≡ st
    → (if is_node size.n 1 then world_after w 1 (if is_down st then refuses (w.node 1) refusal.Down
    else goes_down 1 (w.node 1)) else (Refused refusal.BadNode, w)).0 ≡ WentDown 1
crash-told w size st a b =
    subst (λ (it : Limits). (if is_node it.n 1 then world_after w 1 (if is_down st
    then refuses (w.node 1) refusal.Down else goes_down 1 (w.node 1))
    else (Refused refusal.BadNode, w)).0 ≡ WentDown 1) a
    (subst (λ (it : State). (world_after w 1 (if is_down it then refuses (w.node 1) refusal.Down
    else goes_down 1 (w.node 1))).0 ≡ WentDown 1) b refl)

crashed : HasCrashed new_four [] (Crash 1 ∷ []) 1
unfolding step run
crashed = record {
  sound = sound;
  place = 0;
  behind = omega arith;
  crash = record {
    stands = refl;
    told = λ w shows. crash-told w w.size (w.node 1).state shows.size (shows.nodes 1).state;
  };
}

-- a ready node without records goes down, and comes up again with an empty image
comes-back : (one : Node) → Ready ≡ one.state → [] ≡ one.records
    → (restarts 1 [] (crashes 1 one).1 (crashes 1 one).1.state).0 ≡ Up 1
comes-back one a b =
    subst (λ (st : State). (restarts 1 []
    (if is_down st then refuses one refusal.Down
    else (WentDown 1, record one { state = Down (doubt st); acks = []; heard = [] })).1
    (if is_down st then refuses one refusal.Down
    else (WentDown 1, record one { state = Down (doubt st); acks = []; heard = [] })).1.state).0
    ≡ Up 1) a
    (subst (λ (rs : List Entry). (if says [] rs then comes_up 1 rs one.broadcast
    else refuses (record one { state = Down None; acks = []; heard = [] }) refusal.BadImage).0
    ≡ Up 1) b refl)

told-up : (size : Limits) (node : ℕ → Node) (sent : List Carried) → limits 4 10 ≡ size
    → Ready ≡ (node 1).state → [] ≡ (node 1).records
    → (step (after (record { size = size; node = node; sent = sent }) (Crash 1 ∷ []))
    (Restart 1 [])).0 ≡ Up 1
unfolding step run
told-up size node sent a b c =
    subst (λ (it : Limits). (step (after (record { size = it; node = node; sent = sent })
    (Crash 1 ∷ [])) (Restart 1 [])).0 ≡ Up 1) a (comes-back (node 1) b c)

restarted : HasRestarted new_four [] (Crash 1 ∷ Restart 1 [] ∷ []) 1
restarted = record {
  sound = sound;
  place = 1;
  behind = omega arith;
  image = [];
  restart = record {
    stands = refl;
    told = λ w shows. told-up w.size w.node w.sent shows.size (shows.nodes 1).state
        (sym (no-record (w.node 1).records (shows.nodes 1).count));
  };
}

pub returns-clause-a_number : goal.returns-clause-a_number
returns-clause-a_number c = accepted

pub returns-clause-a_number_of_nothing : goal.returns-clause-a_number_of_nothing
returns-clause-a_number_of_nothing c h = not-accepted h

pub returns-clause-a_status : goal.returns-clause-a_status
returns-clause-a_status c = ready

pub returns-clause-another_status : goal.returns-clause-another_status
returns-clause-another_status c h = not-down h

pub returns-clause-a_crash : goal.returns-clause-a_crash
returns-clause-a_crash c = crashed

pub returns-clause-a_restart : goal.returns-clause-a_restart
returns-clause-a_restart c = restarted
