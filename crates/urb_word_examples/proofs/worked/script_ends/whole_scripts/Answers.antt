-- Each line has an answer of one byte or more, and a script has one outcome.
use Rattle.std.proofs.Common.{List, None, Option, Some, [], ap, arith, length, length-append, ℕ}
use Rattle.std.proofs.Common.{◌++◌, ◌∷◌, ◌≡◌, ◌≤◌}
use Rattle.urb_world.specs.Scenes.{Scene}
use Rattle.urb_script.specs.Scripts.{Answers}
use Rattle.urb_script.specs.declared.runs.RunEnd.TheVariants.{BadLine, Whole}
use Rattle.urb_word_examples.specs.internal.ScriptExamples.{ticks}
use Rattle.urb_word_examples.proofs.worked.script_ends.whole_scripts.Goals as goal

as-many : (old : Option Scene) (done : List (List ℕ)) (said : List ℕ) (new : Option Scene)
    → Answers ticks old done said new → length done ≤ length said
as-many old [] said new a = omega arith
as-many old (line ∷ done) said new a =
    omega (
      arith,
      ap length a.6,
      length-append a.1 (10 ∷ a.3),
      as-many (Some a.2) done a.3 new a.7,
    )

pub returns-clause-a_line_unanswered : goal.returns-clause-a_line_unanswered
returns-clause-a_line_unanswered c h =
    let two : 2 ≡ length (h.done ++ h.left) = ap length h.lines in
    let one : 1 ≡ length (h.said ++ h.last) = ap length h.written in
    omega (
      arith,
      two,
      one,
      length-append h.done h.left,
      ap length h.ends.0,
      as-many None h.done h.said h.state h.answers,
      length-append h.said h.last,
    )

pub returns-clause-with_two_ends : goal.returns-clause-with_two_ends
returns-clause-with_two_ends c once input unread left before after later bad p q =
    let same : Whole ≡ BadLine bad =
    (once input Whole (BadLine bad) unread left before after later p q).0 in
    absurd cc

pub returns-clause-with_two_outputs : goal.returns-clause-with_two_outputs
returns-clause-with_two_outputs c once input unread left before after later differ p q =
    differ (once input Whole Whole unread left before after later p q).1
