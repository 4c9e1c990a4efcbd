-- How a script is answered, line by line.
use Rattle.std.specs.Prelude.{ℕ, List, Option, Some, None}
use Rattle.urb_names.specs.LabelsAndContents.{Limits}
use Rattle.urb_script.specs.Commands.{Command, Group, Spells}
use Rattle.urb_world.specs.Scenes.{Scene}
use Rattle.urb_script.specs.Steps.{Takes, MayCome}

-- The answer to a line, from the state so far. There is no state after it if the line is no command
-- that may come now.
abbrev pub Answered : Option Scene → List ℕ → List ℕ → Option Scene → Type 0
Answered old line text (Some new) = (asked : Command) × Spells line asked × Takes old asked text new
Answered old line text None = (asked : Command) → MayCome old asked → Spells line asked → ⊥

-- the holder of a state shows the scene; without a holder there is no scene yet
abbrev pub ShowsSome : {S : Type 0} → (S → Scene → Type 0) → Option S → Option Scene → Type 0
ShowsSome shows None None = Unit {0}
ShowsSome shows None (Some scene) = ⊥
ShowsSome shows (Some state) None = ⊥
ShowsSome shows (Some state) (Some scene) = shows state scene

-- for each scene that was shown, the line has this answer, and a scene that it leads to is shown
abbrev pub AnsweredFrom : {S : Type 0} → (S → Scene → Type 0) → Option S → List ℕ → List ℕ
    → Option S → Type 0
AnsweredFrom shows old line text new =
    (before : Option Scene) → ShowsSome shows old before
    → (after : Option Scene) × ShowsSome shows new after × Answered before line text after

-- the scene of a new group is shown, and this is the answer
abbrev pub OpensWith : {S : Type 0} → (S → Scene → Type 0) → Limits → List ℕ → S → Type 0
OpensWith shows limits text new =
    (scene : Scene) × shows new scene × Takes None (Group limits) text scene

-- for each scene that was shown, the command has this answer, and a scene that it leads to is shown
abbrev pub TakesFrom : {S : Type 0} → (S → Scene → Type 0) → S → Command → List ℕ → S → Type 0
TakesFrom shows old asked text new =
    (before : Scene) → shows old before
    → (after : Scene) × shows new after × Takes (Some before) asked text after
