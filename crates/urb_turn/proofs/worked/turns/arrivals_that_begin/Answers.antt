-- Bytes that are no packet are refused.
use Rattle.urb_turn.proofs.Common.{Answer, Arrive, Carried, Err, Global, List, Ok, Refusal, Refused}
use Rattle.urb_turn.proofs.Common.{Result, Same, Shows, ShowsNode, Taken, Takes, [], count_of, four}
use Rattle.urb_turn.proofs.Common.{limits, name, new_four, no_view, opened_node, packet_of, refl}
use Rattle.urb_turn.proofs.Common.{step, subst, suc, taken_stage, view_of, zero, ℕ, ◌≡◌}
use Rattle.urb_group.specs.declared.reply.Reply.TheVariants as reply
use Rattle.urb_group.specs.declared.taken.Taken.TheVariants as taken
use Rattle.urb_node.specs.declared.answer.Answer.TheVariants as answer
use Rattle.urb_turn.specs.declared.turn_stages.Stage.TheVariants as stage
use Rattle.urb_turn.proofs.worked.turns.arrivals_that_begin.Goals as goal

new_node : (p : ℕ) → ShowsNode (limits 4 10) p no_view (opened_node p [])
new_node p = record {
  pairs = λ x m. refl;
  certified = λ x. refl;
  log = refl;
  count = refl;
  state = refl;
  cursor = refl;
  acks = λ x q e. refl;
  heard = λ x q. refl;
  rules = tt;
  broadcast = refl;
}

-- a new group shows a new world
shows_new : Shows new_four four
shows_new = record { size = refl; nodes = at }
  where
    at : (p : ℕ) → ShowsNode (limits 4 10) p (view_of new_four p) (opened_node p [])
    at zero = new_node zero
    at (suc before) = new_node (suc before)

refused : (r : Refusal) (told : Answer (List Carried)) → Refused r ≡ Same told → ⊥
refused r told e = cc

not-same : (r : Result (Taken Global) Refusal) → Takes new_four 1 (Arrive 1 (packet_of [])) r new_four
    → stage.Answered (reply.Same (answer.Noted (name 1 1))) ≡ taken_stage r → 1 ≡ count_of r → ⊥
unfolding step
not-same (Ok (taken.Same told)) takes at events = refused _ _ (takes four shows_new).told
not-same (Ok (taken.Store draft)) takes at events = cc
not-same (Err r) takes at events = cc

pub returns-clause-of_another_answer : goal.returns-clause-of_another_answer
returns-clause-of_another_answer c bytes e b =
    not-same b.0 (subst (λ items. Takes new_four 1 (Arrive 1 (packet_of items)) b.0 new_four) e b.1)
    b.3 b.4
