-- The answers to a script.
use Rattle.std.specs.Prelude.{◌≡◌, ℕ, ◌+◌, List, [], ◌∷◌, ◌++◌, length, Option, Some, None, codes}
use Rattle.std.specs.Fmt.{decimal}
use Rattle.std.specs.Io.KnownBytes.{Appends}
use Rattle.urb_script.specs.Lines.{lines_of, IsPlain, IsOneLine}
use Rattle.urb_script.specs.Commands.{Command, Spells}
use Rattle.urb_world.specs.SafetyProperties.{Safe}
use Rattle.urb_world.specs.Scenes.{Scene}
use Rattle.urb_script.specs.Steps.{Plays, Takes, MayCome}
use Rattle.urb_script.specs.declared.runs.RunEnd.{RunEnd}
use Rattle.urb_script.specs.declared.runs.RunEnd.TheVariants.{Whole, BadLine}
use Rattle.urb_script.specs.declared.runs.RunFault.{RunFault}
use Rattle.urb_script.specs.declared.runs.RunFault.TheVariants.{Read, Write, NoMemory}

-- How a command may be answered, and which scene it leads to: from the scene so far, with this
-- text, to this scene.
abbrev pub Rule : Type 1
Rule = Option Scene → Command → List ℕ → Scene → Type 0

-- by this rule, each of the lines is a command that may come, and these are their answers, line by
-- line
abbrev pub Answers : Rule → Option Scene → List (List ℕ) → List ℕ → Option Scene → Type 0
Answers By old [] output new = (output ≡ []) × (new ≡ old)
Answers By old (line ∷ lines) output new =
    (asked : Command) × (text : List ℕ) × (mid : Scene) × (rest : List ℕ)
    × Spells line asked × By old asked text mid × (output ≡ text ++ 10 ∷ rest)
    × Answers By (Some mid) lines rest new

-- The next line is no command that may come now. Or there is no line, and no group was made yet.
abbrev pub IsBad : Option Scene → List (List ℕ) → Type 0
IsBad state (line ∷ lines) = (asked : Command) → MayCome state asked → Spells line asked → ⊥
IsBad None [] = Unit {0}
IsBad (Some scene) [] = ⊥

-- the answer to the line of this number that is no command
abbrev pub bad_line : ℕ → List ℕ
bad_line number = codes "bad line " ++ decimal number ++ 10 ∷ []

-- how a script ends after the lines that were answered
abbrev pub Ends : Option Scene → List (List ℕ) → ℕ → RunEnd → List ℕ → Type 0
Ends state left number Whole output =
    (left ≡ []) × (output ≡ []) × ((scene : Scene) × (state ≡ Some scene))
Ends state left number (BadLine bad) output =
    IsBad state left × (bad ≡ number) × (output ≡ bad_line bad)

-- What the reader still has, if these lines were not answered. At the end, it is nothing. After a
-- bad line, it is all of them but at most one line.
abbrev pub Leaves : List (List ℕ) → RunEnd → List ℕ → Type 0
Leaves left Whole unread = unread ≡ []
Leaves left (BadLine bad) unread =
    (part : List ℕ) × IsOneLine part × (left ≡ lines_of (part ++ unread))

-- A script from its first line to its end, by this rule. It has the lines that are answered, the
-- other lines, the answers to the first, and what was written at the end. `unread` is what the
-- reader still has.
pub record WholeScript (By : Rule) (input : List ℕ) (ended : RunEnd) (unread : List ℕ)
    (before after : Option (List ℕ)) : Type 0 where
  pub done : List (List ℕ)
  pub left : List (List ℕ)
  pub said : List ℕ
  pub last : List ℕ
  pub state : Option Scene
  pub lines : lines_of input ≡ done ++ left
  pub answers : Answers By None done said state
  pub ends : Ends state left (length done + 1) ended last
  pub leaves : Leaves left ended unread
  pub written : Appends before after (said ++ last)

-- A script that stopped. These are the answers to all lines except what was read last, and the
-- reader still has the rest.
pub record StopsAfter (P : List ℕ → Type 0) (input unread said : List ℕ) : Type 0 where
  pub done : List (List ℕ)
  pub part : List ℕ
  pub state : Option Scene
  pub lines : lines_of input ≡ done ++ lines_of (part ++ unread)
  pub reads : P part
  pub answers : Answers Takes None done said state

-- a script that stopped, and its answers are written
abbrev pub BrokenOff : (List ℕ → Type 0) → List ℕ → List ℕ → Option (List ℕ) → Option (List ℕ)
    → Type 0
BrokenOff P input unread before after =
    (said : List ℕ) × StopsAfter P input unread said × Appends before after said

-- A script that broke off, with what the reader still has. After a failed read, every line that was
-- read whole is answered. Without memory, and after a failed write, at most one is not. It doesn't
-- say what a failed write has written.
abbrev pub BreaksOff : RunFault → List ℕ → List ℕ → Option (List ℕ) → Option (List ℕ) → Type 0
BreaksOff Read input unread before after = BrokenOff IsPlain input unread before after
BreaksOff Write input unread before after = (said : List ℕ) × StopsAfter IsOneLine input unread said
BreaksOff NoMemory input unread before after = BrokenOff IsOneLine input unread before after

-- whichever lines are answered, the world that they lead to is safe
abbrev pub StaysSafe : Type 0
StaysSafe =
    (lines : List (List ℕ)) (output : List ℕ) (scene : Scene)
    → Answers Takes None lines output (Some scene) → Safe scene.world

-- If no store is refused memory, a script has only one outcome: any two ends and outputs that
-- answer it are the same.
abbrev pub HasOneOutcome : Type 0
HasOneOutcome =
    (input : List ℕ) (ended other : RunEnd) (unread left before after later : List ℕ)
    → WholeScript Plays input ended unread (Some before) (Some after)
    → WholeScript Plays input other left (Some before) (Some later)
    → (ended ≡ other) × (after ≡ later)
