-- A new node holds no draft.
use Rattle.urb_turn.proofs.Common.{Err, Fail, GoesDown, GroupView, Ok, Refusal, Refused, Result}
use Rattle.urb_turn.proofs.Common.{Shows, ShowsNode, WentDown, [], four, limits, new_four, no_view}
use Rattle.urb_turn.proofs.Common.{opened_node, refl, step, suc, view_of, zero, ℕ, ◌≡◌}
use Rattle.urb_turn.specs.Stages.{fail_reply}
use Rattle.urb_group.specs.declared.reply.Reply.TheVariants as reply
use Rattle.urb_names.specs.declared.refusal.Refusal.TheVariants as refusal
use Rattle.urb_stable.specs.declared.stable.StoreFault.TheVariants as fault
use Rattle.urb_turn.proofs.worked.turn_ends.failures_that_end.Goals as goal

new_node : (p : ℕ) → ShowsNode (limits 4 10) p no_view (opened_node p [])
new_node p = record {
  pairs = λ x m. refl;
  certified = λ x. refl;
  log = refl;
  count = refl;
  state = refl;
  cursor = refl;
  acks = λ x q e. refl;
  heard = λ x q. refl;
  rules = tt;
  broadcast = refl;
}

-- a new group shows a new world
shows_new : Shows new_four four
shows_new = record { size = refl; nodes = at }
  where
    at : (p : ℕ) → ShowsNode (limits 4 10) p (view_of new_four p) (opened_node p [])
    at zero = new_node zero
    at (suc before) = new_node (suc before)

refused : (r : Refusal) (p : ℕ) → Refused r ≡ WentDown p → ⊥
refused r p e = cc

not-failed : (r : Result (Unit {0}) Refusal) (group : GroupView) → GoesDown new_four 1 (Fail 1) r group
    → reply.Refused refusal.Device ≡ fail_reply fault.Device r → ⊥
unfolding step
not-failed (Ok done) group fails said = refused _ _ (fails four shows_new).told
not-failed (Err r) group fails said = cc

pub returns-clause-of_a_node_that_holds_no_draft : goal.returns-clause-of_a_node_that_holds_no_draft
returns-clause-of_a_node_that_holds_no_draft c e = not-failed e.0 _ e.1 e.3
