-- A ready node is not restarted.
use Rattle.urb_turn.proofs.Common.{ComesUp, Entry, Err, GroupView, List, Ok, Refusal, Refused}
use Rattle.urb_turn.proofs.Common.{Restart, Result, Shows, ShowsNode, Up, [], four, limits}
use Rattle.urb_turn.proofs.Common.{new_four, no_view, opened_node, refl, step, suc, view_of, zero}
use Rattle.urb_turn.proofs.Common.{ℕ, ◌≡◌}
use Rattle.urb_turn.specs.Stages.{restart_reply}
use Rattle.urb_group.specs.declared.reply.Reply.TheVariants as reply
use Rattle.urb_turn.proofs.worked.turn_ends.restarts_that_end.Goals as goal

new_node : (p : ℕ) → ShowsNode (limits 4 10) p no_view (opened_node p [])
new_node p = record {
  pairs = λ x m. refl;
  certified = λ x. refl;
  log = refl;
  count = refl;
  state = refl;
  cursor = refl;
  acks = λ x q e. refl;
  heard = λ x q. refl;
  rules = tt;
  broadcast = refl;
}

-- a new group shows a new world
shows_new : Shows new_four four
shows_new = record { size = refl; nodes = at }
  where
    at : (p : ℕ) → ShowsNode (limits 4 10) p (view_of new_four p) (opened_node p [])
    at zero = new_node zero
    at (suc before) = new_node (suc before)

refused : (r : Refusal) (p : ℕ) → Refused r ≡ Up p → ⊥
refused r p e = cc

not-up : (image : List Entry) (r : Result (Unit {0}) Refusal) (group : GroupView)
    → ComesUp new_four 1 (Restart 1 image) r group → reply.Up 1 ≡ restart_reply 1 r → ⊥
unfolding step
not-up image (Ok done) group comes said = refused _ _ (comes four shows_new).told
not-up image (Err r) group comes said = cc

pub returns-clause-of_a_ready_node : goal.returns-clause-of_a_ready_node
returns-clause-of_a_ready_node c image e = not-up image.items e.0 _ e.2 e.5
