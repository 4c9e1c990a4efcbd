-- A new node holds no record.
use Rattle.urb_turn.proofs.Common.{Commits, Done, Err, GroupView, Ok, Placed, Refusal, Refused}
use Rattle.urb_turn.proofs.Common.{Result, Shows, ShowsNode, Stored, [], first_of_one, four, limits}
use Rattle.urb_turn.proofs.Common.{new_four, no_view, nothing_released, opened_node, refl, step}
use Rattle.urb_turn.proofs.Common.{suc, view_of, zero, ℕ, ◌≡◌}
use Rattle.urb_turn.specs.Stages.{commit_reply}
use Rattle.urb_group.specs.declared.reply.Reply.TheVariants as reply
use Rattle.urb_turn.proofs.worked.turn_ends.receipts_that_end.Goals as goal

new_node : (p : ℕ) → ShowsNode (limits 4 10) p no_view (opened_node p [])
new_node p = record {
  pairs = λ x m. refl;
  certified = λ x. refl;
  log = refl;
  count = refl;
  state = refl;
  cursor = refl;
  acks = λ x q e. refl;
  heard = λ x q. refl;
  rules = tt;
  broadcast = refl;
}

-- a new group shows a new world
shows_new : Shows new_four four
shows_new = record { size = refl; nodes = at }
  where
    at : (p : ℕ) → ShowsNode (limits 4 10) p (view_of new_four p) (opened_node p [])
    at zero = new_node zero
    at (suc before) = new_node (suc before)

refused : (r : Refusal) (done : Done) → Refused r ≡ Stored done → ⊥
refused r done e = cc

not-held : (r : Result Done (Placed × Refusal)) (group : GroupView)
    → Commits new_four first_of_one r group → reply.Stored nothing_released ≡ commit_reply r → ⊥
unfolding step
not-held (Ok done) group commits said = refused _ _ (commits four shows_new).told
not-held (Err e) group commits said = cc

pub returns-clause-of_a_record_that_was_not_held : goal.returns-clause-of_a_record_that_was_not_held
returns-clause-of_a_record_that_was_not_held c e = not-held e.0 _ e.2 e.5
