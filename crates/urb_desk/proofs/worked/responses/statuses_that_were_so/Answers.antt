-- The status of a new node.
use Rattle.urb_desk.proofs.Common.{Content, Event, IsLedTo, IsSound, Label, Limits, List, None}
use Rattle.urb_desk.proofs.Common.{Option, Ready, Shows, ShowsNode, Some, Status, TellsStatus}
use Rattle.urb_desk.proofs.Common.{WasSo, [], ap, arith, four, if◌then◌else◌, is_node, length}
use Rattle.urb_desk.proofs.Common.{limits, log, new-kept, new_four, new_status, no_view}
use Rattle.urb_desk.proofs.Common.{opened_node, own, pend, refl, run, state_of, stored, subst, suc}
use Rattle.urb_desk.proofs.Common.{sym, told_state, view_of, zero, ℕ, ◌++◌, ◌∷◌, ◌≡◌}
use Rattle.urb_group.specs.declared.state.State.{State as Reported}
use Rattle.urb_node.specs.Part.{State}
use Rattle.urb_stable.specs.Entries.{Entry}
use Rattle.urb_client.specs.declared.response.NodeState.TheVariants as told
use Rattle.urb_group.specs.declared.state.State.TheVariants as state
use Rattle.urb_desk.proofs.worked.responses.statuses_that_were_so.Goals as goal

new_node : (p : ℕ) → ShowsNode (limits 4 10) p no_view (opened_node p [])
new_node p = record {
  pairs = λ x m. refl;
  certified = λ x. refl;
  log = refl;
  count = refl;
  state = refl;
  cursor = refl;
  acks = λ x q e. refl;
  heard = λ x q. refl;
  rules = tt;
  broadcast = refl;
}

-- a new group shows a new world
shows_new : Shows new_four four
shows_new = record { size = refl; nodes = at }
  where
    at : (p : ℕ) → ShowsNode (limits 4 10) p (view_of new_four p) (opened_node p [])
    at zero = new_node zero
    at (suc before) = new_node (suc before)

-- a new group shows a world that keeps the rules
sound : IsSound new_four
sound = record { world = four; shows = shows_new; kept = new-kept (limits 4 10) }

-- events that are none, and records that are none
no-event : (past rest : List Event) → past ++ rest ≡ [] → past ≡ []
no-event [] rest e = refl
no-event (event ∷ past) rest e = cc

no-record : (records : List Entry) → 0 ≡ length records → records ≡ []
no-record [] e = refl
no-record (r ∷ records) e = absurd (omega (arith, e))

told-of : (size : Limits) (st : State) (own : List Content) (logged : List Label)
    → limits 4 10 ≡ size → Ready ≡ st → [] ≡ own → [] ≡ logged
    → Some new_status ≡ (if is_node size.n 1 then Some (record {
      state = state_of st;
      own = length own;
      logged = length logged;
    }) else None)
told-of size st own logged a b c d =
    subst (λ (it : Limits). Some new_status ≡ (if is_node it.n 1 then Some (record {
      state = state_of st;
      own = length own;
      logged = length logged;
    }) else None)) a
    (subst (λ (it : State). Some new_status ≡ Some (record {
      state = state_of it;
      own = length own;
      logged = length logged;
    })) b
    (subst (λ (it : List Content). Some new_status ≡ Some (record {
      state = state.Ready;
      own = length it;
      logged = length logged;
    })) c
    (subst (λ (it : List Label). Some new_status ≡ Some (record {
      state = state.Ready;
      own = 0;
      logged = length it;
    })) d refl)))

-- the status of node 1 of each world that a new group shows
tells-new : TellsStatus new_four 1 (Some new_status)
tells-new w shows =
    let node = shows.nodes 1 in
    let none : (w.node 1).records ≡ [] = no-record (w.node 1).records node.count in
    told-of w.size (w.node 1).state (w.node 1).broadcast (log (stored w 1)) shows.size node.state
    (sym (subst (λ records. (w.node 1).broadcast ≡ own 1 (pend records)) none node.broadcast))
    node.log

ready : WasSo new_four [] [] 1 told.Ready 0 0
unfolding run
ready = record {
  sound = sound;
  past = [];
  behind = ([], refl);
  within = ([], refl);
  group = new_four;
  leads = λ w shows. shows;
  status = new_status;
  tells = tells-new;
  told = refl;
}

abbrev state_in : Option Status → Reported
state_in (Some status) = status.state
state_in None = state.Storing

down-up : told.Down ≡ told.Ready → ⊥
down-up e = cc

not-down : WasSo new_four [] [] 1 told.Down 0 0 → ⊥
unfolding run
not-down h =
    let none : h.past ≡ [] = no-event h.past h.within.0 h.within.1 in
    let shows = subst (λ past. IsLedTo new_four past h.group) none h.leads four shows_new in
    let is : h.status.state ≡ state.Ready = ap state_in (h.tells four shows) in
    let said : told.Down ≡ told_state h.status.state = cc in
    down-up (subst (λ it. told.Down ≡ told_state it) is said)

pub returns-clause-down_at_the_opening : goal.returns-clause-down_at_the_opening
returns-clause-down_at_the_opening c h = not-down h

pub returns-clause-ready_at_the_opening : goal.returns-clause-ready_at_the_opening
returns-clause-ready_at_the_opening c = ready
