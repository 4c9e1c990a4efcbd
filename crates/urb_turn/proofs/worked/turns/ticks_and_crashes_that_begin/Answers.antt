-- A tick and a crash of a new node are done.
use Rattle.urb_turn.proofs.Common.{Carried, Crash, Entry, Err, GoesDown, IsRefused, List, Ok}
use Rattle.urb_turn.proofs.Common.{Refusal, Refused, Result, Shows, ShowsNode, Tick, WentDown}
use Rattle.urb_turn.proofs.Common.{World, [], arith, crash_stage, four, length, limits, log, name}
use Rattle.urb_turn.proofs.Common.{new_four, no_view, opened_node, refl, shows_none, step, subst}
use Rattle.urb_turn.proofs.Common.{suc, sym, tick_stage, view_of, zero, ℕ, ◌∷◌, ◌≡◌}
use Rattle.urb_group.specs.GroupCalls.{Ticks}
use Rattle.urb_world.specs.World.{stored}
use Rattle.urb_node.specs.Replies.{Sent}
use Rattle.urb_group.specs.declared.reply.Reply.TheVariants as reply
use Rattle.urb_names.specs.declared.refusal.Refusal.TheVariants as refusal
use Rattle.urb_turn.specs.declared.turn_stages.Stage.TheVariants as stage
use Rattle.urb_turn.proofs.worked.turns.ticks_and_crashes_that_begin.Goals as goal

new_node : (p : ℕ) → ShowsNode (limits 4 10) p no_view (opened_node p [])
new_node p = record {
  pairs = λ x m. refl;
  certified = λ x. refl;
  log = refl;
  count = refl;
  state = refl;
  cursor = refl;
  acks = λ x q e. refl;
  heard = λ x q. refl;
  rules = tt;
  broadcast = refl;
}

-- a new group shows a new world
shows_new : Shows new_four four
shows_new = record { size = refl; nodes = at }
  where
    at : (p : ℕ) → ShowsNode (limits 4 10) p (view_of new_four p) (opened_node p [])
    at zero = new_node zero
    at (suc before) = new_node (suc before)

no_name : (records : List Entry) → 0 ≡ length records → name 1 1 ∷ [] ≡ log records → ⊥
no_name [] count logged = cc
no_name (r ∷ records) count logged = omega (arith, count)

-- the group shows no world
no_world : (w : World) → Shows shows_none w → ⊥
no_world w shows = let node = shows.nodes 1 in no_name (stored w 1) node.count node.log

sent-refused : (packets : List Carried) (r : Refusal) → Sent packets ≡ Refused r → ⊥
sent-refused packets r e = cc

down-refused : (p : ℕ) (r : Refusal) → WentDown p ≡ Refused r → ⊥
down-refused p r e = cc

no-tick : (r : Result (List Carried) Refusal) → Ticks new_four (Tick 1) r new_four
    → stage.Answered (reply.Refused refusal.Down) ≡ tick_stage r → ⊥
unfolding step
no-tick (Ok packets) ticks at = cc
no-tick (Err r) ticks at =
    let e : refusal.Down ≡ r = cc in
    sent-refused _ _ ((subst (λ r. IsRefused new_four (Tick 1) r new_four) (sym e) ticks).0 four
    shows_new)

no-crash : (r : Result (Unit {0}) Refusal) → GoesDown new_four 1 (Crash 1) r new_four
    → stage.Answered (reply.Refused refusal.Down) ≡ crash_stage 1 r → ⊥
unfolding step
no-crash (Ok done) crashes at = cc
no-crash (Err r) crashes at =
    let e : refusal.Down ≡ r = cc in
    down-refused _ _ ((subst (λ r. IsRefused new_four (Crash 1) r new_four) (sym e) crashes).0 four
    shows_new)

pub returns-clause-a_refused_tick : goal.returns-clause-a_refused_tick
returns-clause-a_refused_tick c b = no-tick b.0 b.1 b.3

pub returns-clause-a_tick : goal.returns-clause-a_tick
returns-clause-a_tick c = (
  Ok [],
  λ w shows. absurd (no_world w shows),
  record { published = refl; prepared = refl; events = refl; past = refl },
  refl,
  refl,
)

pub returns-clause-a_refused_crash : goal.returns-clause-a_refused_crash
returns-clause-a_refused_crash c b = no-crash b.0 b.1 b.3

pub returns-clause-a_crash : goal.returns-clause-a_crash
returns-clause-a_crash c = (
  Ok tt,
  λ w shows. absurd (no_world w shows),
  record { published = refl; prepared = refl; events = refl; past = refl },
  refl,
  refl,
)
