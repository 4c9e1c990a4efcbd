-- Where no line was read, nothing is said, and one letter is no command.
use Rattle.std.proofs.Common.{List, None, Option, [], ap, append-nil, arith, get_or, length, subst}
use Rattle.std.proofs.Common.{sym, ℕ, ◌++◌, ◌∷◌, ◌≡◌, ◌≤◌}
use Rattle.urb_world.specs.Scenes.{Scene}
use Rattle.urb_script.specs.Commands.{Arrive, ArriveFlagged, Command, Crash, Fail, Group, Held, Log}
use Rattle.urb_script.specs.Commands.{Raw, Reopen, Restart, Spells, Stored, Submit, Tick, keyword}
use Rattle.urb_script.specs.Lines.{IsOneLine, lines_of}
use Rattle.urb_script.specs.Scripts.{Answers}
use Rattle.urb_script.specs.Steps.{Takes}
use Rattle.urb_word_examples.proofs.worked.script_ends.scripts_that_stopped.Goals as goal

nothing-said : (done more : List (List ℕ)) (said : List ℕ) (state : Option Scene)
    → [] ≡ done ++ more → Answers Takes None done said state → said ≡ []
nothing-said [] more said state is a = a.0
nothing-said (line ∷ done) more said state is a = absurd (omega (arith, ap length is))

-- a command's first word has three letters or more
long-word : (asked : Command) → 3 ≤ length (keyword asked)
long-word (Group limits) = omega arith
long-word (Submit node client number payload) = omega arith
long-word (Stored node) = omega arith
long-word (Fail node failure) = omega arith
long-word (Crash node) = omega arith
long-word (Restart node) = omega arith
long-word Reopen = omega arith
long-word (Arrive source node name) = omega arith
long-word (ArriveFlagged source node name flags) = omega arith
long-word (Raw node bytes) = omega arith
long-word (Tick node) = omega arith
long-word (Log node) = omega arith
long-word (Held name) = omega arith

no-command : (line : List ℕ) (asked : Command) → line ≡ 97 ∷ [] → Spells line asked → ⊥
no-command line asked is s =
    let t : Spells (97 ∷ []) asked = subst (λ (l : List ℕ). Spells l asked) is s in
    let word : 97 ∷ [] ≡ keyword asked = t.words.0 in
    omega (arith, ap length word, long-word asked)

two-lines : (done : List (List ℕ)) (part said : List ℕ) (state : Option Scene)
    → (97 ∷ []) ∷ (98 ∷ []) ∷ [] ≡ done ++ lines_of (part ++ []) → IsOneLine part
    → Answers Takes None done said state → ⊥
two-lines [] part said state is one a =
    omega (
      arith,
      ap length is,
      one,
      ap (λ (p : List ℕ). length (lines_of p)) (append-nil part),
    )
two-lines (line ∷ done) part said state is one a =
    no-command line a.0 (sym (ap (λ (ls : List (List ℕ)). get_or ls 0 []) is)) a.4

pub returns-clause-read_with_output_for_nothing : goal.returns-clause-read_with_output_for_nothing
returns-clause-read_with_output_for_nothing c h =
    omega (
      arith,
      ap length h.2,
      ap length (nothing-said h.1.done _ h.0 h.1.state h.1.lines
          h.1.answers),
    )

pub returns-clause-no_memory_with_output_for_nothing
    : goal.returns-clause-no_memory_with_output_for_nothing
returns-clause-no_memory_with_output_for_nothing c h =
    omega (
      arith,
      ap length h.2,
      ap length (nothing-said h.1.done _ h.0 h.1.state h.1.lines
          h.1.answers),
    )

pub returns-clause-two_lines_unanswered : goal.returns-clause-two_lines_unanswered
returns-clause-two_lines_unanswered c h =
    two-lines h.1.done h.1.part h.0 h.1.state h.1.lines h.1.reads h.1.answers
