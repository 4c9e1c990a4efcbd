-- What the log lines of a script show.
use Rattle.std.specs.Prelude.{◌≡◌, ℕ, List, ◌∷◌, ◌++◌, Option, Some, None}
use Rattle.urb_names.specs.ListPrefixes.{OneBegins}
use Rattle.urb_stable.specs.DeliveredLogs.{entries_of}
use Rattle.urb_world.specs.SafetyProperties.{Safe}
use Rattle.urb_world.specs.Scenes.{Scene}
use Rattle.urb_world.specs.World.{stored}
use Rattle.urb_script.specs.Commands.{Log, Spells}
use Rattle.urb_script.specs.Scripts.{Answers}
use Rattle.urb_script.specs.Steps.{Takes, shown_log}

-- After these lines p's log is shown, as it is in the scene that they lead to. The world there is
-- safe. For each sender, the log has the first messages that its storage took, in order and once. A
-- majority's storages hold each of them.
pub record IsShownSafe (earlier : List (List ℕ)) (p : ℕ) (output : List ℕ) : Type 0 where
  pub scene : Scene
  pub said : List ℕ
  pub rest : List ℕ
  pub before : Answers Takes None earlier said (Some scene)
  pub shown : output ≡ said ++ (shown_log scene.world p ++ 10 ∷ rest)
  pub safe : Safe scene.world

-- if a script is answered, each of its log lines shows a safe log
abbrev pub LogsAreSafe : Type 0
LogsAreSafe =
    (earlier later : List (List ℕ)) (line output : List ℕ) (p : ℕ) (state : Option Scene)
    → Spells line (Log p)
    → Answers Takes None (earlier ++ line ∷ later) output state → IsShownSafe earlier p output

-- After these lines p's log is shown, and after those between, q's. For each sender, what one of
-- the two shows is a prefix of what the other shows.
pub record AreShownAgreeing (earlier between : List (List ℕ)) (p q : ℕ)
    (output : List ℕ) : Type 0 where
  pub old : Scene
  pub new : Scene
  pub said : List ℕ
  pub heard : List ℕ
  pub rest : List ℕ
  pub before : Answers Takes None earlier said (Some old)
  pub meanwhile : Answers Takes (Some old) between heard (Some new)
  pub shown : output ≡ said ++ (shown_log old.world p
      ++ 10 ∷ (heard ++ (shown_log new.world q ++ 10 ∷ rest)))
  pub agree : (s : ℕ) → OneBegins (entries_of s (stored old.world p))
      (entries_of s (stored new.world q))

-- if a script is answered, any two of its log lines, of one node or of two, agree on every sender
abbrev pub LogsAgree : Type 0
LogsAgree =
    (earlier between later : List (List ℕ)) (line other output : List ℕ) (p q : ℕ)
    (state : Option Scene) → Spells line (Log p) → Spells other (Log q)
    → Answers Takes None (earlier ++ line ∷ (between ++ other ∷ later)) output state
    → AreShownAgreeing earlier between p q output
