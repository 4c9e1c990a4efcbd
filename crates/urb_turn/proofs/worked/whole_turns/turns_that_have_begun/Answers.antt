-- A status and a crash that have begun.
use Rattle.urb_turn.proofs.Common.{Bool, Crash, Err, Goes, GoesDown, GroupView, IsLedTo, IsRefused}
use Rattle.urb_turn.proofs.Common.{IsSound, Node, Ok, Refusal, Refused, Result, Shows, ShowsNode}
use Rattle.urb_turn.proofs.Common.{WentDown, World, [], crash_stage, false, four, goes_down}
use Rattle.urb_turn.proofs.Common.{house_of_four, if◌then◌else◌, is_down, is_node, limits, new-kept}
use Rattle.urb_turn.proofs.Common.{new_four, no_view, opened_node, refl, refuses, run, step, subst}
use Rattle.urb_turn.proofs.Common.{suc, sym, true, view_of, world_after, zero, ℕ, ◌≡◌}
use Rattle.urb_group.specs.declared.reply.Reply.TheVariants as reply
use Rattle.urb_names.specs.declared.refusal.Refusal.TheVariants as refusal
use Rattle.urb_turn.specs.declared.turn_stages.Stage.TheVariants as stage
use Rattle.urb_turn.proofs.worked.whole_turns.turns_that_have_begun.Goals as goal

new_node : (p : ℕ) → ShowsNode (limits 4 10) p no_view (opened_node p [])
new_node p = record {
  pairs = λ x m. refl;
  certified = λ x. refl;
  log = refl;
  count = refl;
  state = refl;
  cursor = refl;
  acks = λ x q e. refl;
  heard = λ x q. refl;
  rules = tt;
  broadcast = refl;
}

-- a new group shows a new world
shows_new : Shows new_four four
shows_new = record { size = refl; nodes = at }
  where
    at : (p : ℕ) → ShowsNode (limits 4 10) p (view_of new_four p) (opened_node p [])
    at zero = new_node zero
    at (suc before) = new_node (suc before)

-- a new group shows a world that keeps the rules
sound : IsSound new_four
sound = record { world = four; shows = shows_new; kept = new-kept (limits 4 10) }

-- a new group is led to itself by no event
led : IsLedTo new_four [] new_four
unfolding run
led w shows = shows

down-refused : (p : ℕ) (r : Refusal) → WentDown p ≡ Refused r → ⊥
down-refused p r e = cc

pick : (b d : Bool) (w : World) (node : Node)
    → (if b then world_after w 1 (if d then refuses node refusal.Down else goes_down 1 node)
    else (Refused refusal.BadNode, w)).0 ≡ Refused refusal.Stale → ⊥
pick true true w node e = cc
pick true false w node e = cc
pick false d w node e = cc

-- no crash is refused as stale
not-stale : (w : World) → (step w (Crash 1)).0 ≡ Refused refusal.Stale → ⊥
unfolding step
not-stale w e = pick (is_node w.size.n 1) (is_down (w.node 1).state) w (w.node 1) e

stale : (r : Result (Unit {0}) Refusal) (group later : GroupView) → IsSound group
    → GoesDown group 1 (Crash 1) r later
    → Goes (crash_stage 1 r) (stage.Answered (reply.Refused refusal.Stale)) → ⊥
stale (Ok done) group later sound crashes goes = cc
stale (Err r) group later sound crashes goes =
    let e : refusal.Stale ≡ r = cc in
    not-stale sound.world ((subst (λ r. IsRefused group (Crash 1) r later) (sym e) crashes).0
    sound.world sound.shows)

down : (r : Result (Unit {0}) Refusal) (group later : GroupView) → Shows group four
    → GoesDown group 1 (Crash 1) r later
    → Goes (crash_stage 1 r) (stage.Answered (reply.Refused refusal.Down)) → ⊥
unfolding step
down (Ok done) group later shows crashes goes = cc
down (Err r) group later shows crashes goes =
    let e : refusal.Down ≡ r = cc in
    down-refused _ _ ((subst (λ r. IsRefused group (Crash 1) r later) (sym e) crashes).0 four shows)

pub returns-clause-a_status : goal.returns-clause-a_status
returns-clause-a_status c =
    (house_of_four [], house_of_four [], stage.Asking, 0, sound, (refl, refl, refl), refl, led, tt)

pub returns-clause-a_refusal_that_no_group_gives : goal.returns-clause-a_refusal_that_no_group_gives
returns-clause-a_refusal_that_no_group_gives c (old, new, at, events, sound, begins, goes, leads, loan) =
    stale begins.0 old.group new.group sound begins.1
    (subst (λ at. Goes at (stage.Answered (reply.Refused refusal.Stale))) begins.3 goes)

pub returns-clause-a_refused_crash_at_the_opening : goal.returns-clause-a_refused_crash_at_the_opening
unfolding run
returns-clause-a_refused_crash_at_the_opening c (old, new, at, events, sound, begins, goes, leads, loan) =
    down begins.0 old.group new.group
    (subst (λ past. IsLedTo new_four past old.group) (sym loan.lent_at) leads four shows_new)
    begins.1
    (subst (λ at. Goes at (stage.Answered (reply.Refused refusal.Down))) begins.3 goes)
