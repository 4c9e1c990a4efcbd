-- The results of a restart and of a status in a new group.
use Rattle.urb_turn.proofs.Common.{Answers, CameOf, Ends, Goes, IsLedTo, IsSound, Limits, None}
use Rattle.urb_turn.proofs.Common.{NothingNew, Option, Shows, ShowsNode, Some, Status, [], ap, four}
use Rattle.urb_turn.proofs.Common.{house_of_four, if◌then◌else◌, is_node, limits, new-kept}
use Rattle.urb_turn.proofs.Common.{new_four, new_status, no_view, opened_node, refl, run, state_of}
use Rattle.urb_turn.proofs.Common.{status_of, subst, suc, sym, view_of, zero, ℕ, ◌≡◌}
use Rattle.urb_group.specs.declared.state.State.{State as Reported}
use Rattle.urb_node.specs.Part.{State}
use Rattle.urb_group.specs.declared.reply.Reply.TheVariants as reply
use Rattle.urb_group.specs.declared.state.State.TheVariants as state
use Rattle.urb_names.specs.declared.refusal.Refusal.TheVariants as refusal
use Rattle.urb_turn.specs.declared.job.Job.TheVariants as job
use Rattle.urb_turn.specs.declared.turn_stages.Stage.TheVariants as stage
use Rattle.urb_turn.proofs.worked.whole_turns.results_of_turns.Goals as goal

new_node : (p : ℕ) → ShowsNode (limits 4 10) p no_view (opened_node p [])
new_node p = record {
  pairs = λ x m. refl;
  certified = λ x. refl;
  log = refl;
  count = refl;
  state = refl;
  cursor = refl;
  acks = λ x q e. refl;
  heard = λ x q. refl;
  rules = tt;
  broadcast = refl;
}

-- a new group shows a new world
shows_new : Shows new_four four
shows_new = record { size = refl; nodes = at }
  where
    at : (p : ℕ) → ShowsNode (limits 4 10) p (view_of new_four p) (opened_node p [])
    at zero = new_node zero
    at (suc before) = new_node (suc before)

-- a new group shows a world that keeps the rules
sound : IsSound new_four
sound = record { world = four; shows = shows_new; kept = new-kept (limits 4 10) }

-- a new group is led to itself by no event
led : IsLedTo new_four [] new_four
unfolding run
led w shows = shows

-- node 1 of each world that a new group shows is ready
state-ready : Answers (λ w. Some (state_of (w.node 1).state)) new_four 1 (Some state.Ready)
state-ready w shows =
    subst (λ (size : Limits). Some state.Ready
    ≡ (if is_node size.n 1 then Some (state_of (w.node 1).state) else None)) shows.size
    (subst (λ (it : State). Some state.Ready ≡ Some (state_of it)) (shows.nodes 1).state refl)

-- a restart of a ready node, which the group refuses
restarted : CameOf new_four (job.Restart 1) (reply.Refused refusal.NotDown) None NothingNew None
restarted = (
  stage.Answered (reply.Refused refusal.NotDown),
  house_of_four [],
  house_of_four [],
  0,
  None,
  sound,
  (
    house_of_four [],
    house_of_four [],
    stage.Answered (reply.Refused refusal.NotDown),
    0,
    sound,
    (Some state.Ready, state-ready, refl, refl, refl),
    refl,
    led,
    tt,
  ),
  (refl, refl, refl, refl, refl),
  sound,
  led,
  tt,
)

abbrev state_in : Option Status → Reported
state_in (Some status) = status.state
state_in None = state.Storing

not-down : Some (record new_status { state = state.Down }) ≡ Some (status_of four 1) → ⊥
not-down e = let same : state.Down ≡ state.Ready = ap state_in e in other same
  where
    other : state.Down ≡ state.Ready → ⊥
    other e = cc

pub returns-clause-a_restart_of_a_ready_node : goal.returns-clause-a_restart_of_a_ready_node
returns-clause-a_restart_of_a_ready_node c = restarted

pub returns-clause-a_node_that_is_down_at_the_opening : goal.returns-clause-a_node_that_is_down_at_the_opening
unfolding run
returns-clause-a_node_that_is_down_at_the_opening c (at, old, new, events, first, is, begun, ends, opens, leads, loans) =
    let asked : at ≡ stage.Asking = subst (λ it. Goes it at) begun.5.1 begun.6 in
    let ended = subst (λ it. Ends old (job.Status 1) it new (reply.WentDown 1)
    (Some (record new_status { state = state.Down })) NothingNew events) asked ends in
    not-down (ended.1 four
    (subst (λ past. IsLedTo new_four past old.group) (sym loans.last_is.lent_at) leads four shows_new))
