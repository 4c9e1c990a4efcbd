-- A submit in a new group is drafted.
use Rattle.urb_turn.proofs.Common.{Answer, Carried, Drafted, Err, Global, Label, List, Ok, Refusal}
use Rattle.urb_turn.proofs.Common.{Result, Same, Shows, ShowsNode, Submit, Taken, Takes, []}
use Rattle.urb_turn.proofs.Common.{count_of, four, limits, name, new_four, no_view, opened_node}
use Rattle.urb_turn.proofs.Common.{refl, step, suc, taken_stage, view_of, zero, ℕ, ◌≡◌}
use Rattle.urb_group.specs.declared.reply.Reply.TheVariants as reply
use Rattle.urb_group.specs.declared.taken.Taken.TheVariants as taken
use Rattle.urb_node.specs.declared.answer.Answer.TheVariants as answer
use Rattle.urb_turn.specs.declared.turn_stages.Stage.TheVariants as stage
use Rattle.urb_turn.proofs.worked.turns.submits_that_begin.Goals as goal

new_node : (p : ℕ) → ShowsNode (limits 4 10) p no_view (opened_node p [])
new_node p = record {
  pairs = λ x m. refl;
  certified = λ x. refl;
  log = refl;
  count = refl;
  state = refl;
  cursor = refl;
  acks = λ x q e. refl;
  heard = λ x q. refl;
  rules = tt;
  broadcast = refl;
}

-- a new group shows a new world
shows_new : Shows new_four four
shows_new = record { size = refl; nodes = at }
  where
    at : (p : ℕ) → ShowsNode (limits 4 10) p (view_of new_four p) (opened_node p [])
    at zero = new_node zero
    at (suc before) = new_node (suc before)

drafted : (x : Label) (position : ℕ) (told : Answer (List Carried)) → Drafted x position ≡ Same told
    → ⊥
drafted x position told e = cc

not-same : (r : Result (Taken Global) Refusal)
    → Takes new_four 1 (Submit 1 (record { client = 7; number = 1; payload = [] })) r new_four
    → stage.Answered (reply.Same (answer.Accepted (name 1 1))) ≡ taken_stage r → 1 ≡ count_of r → ⊥
unfolding step
not-same (Ok (taken.Same told)) takes at events = drafted _ _ _ (takes four shows_new).told
not-same (Ok (taken.Store draft)) takes at events = cc
not-same (Err r) takes at events = cc

pub returns-clause-of_another_answer : goal.returns-clause-of_another_answer
returns-clause-of_another_answer c b = not-same b.0 b.1 b.3 b.4
