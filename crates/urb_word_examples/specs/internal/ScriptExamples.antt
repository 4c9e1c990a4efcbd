-- Words of the worked examples: scenes of scripts, and simple rules for answers.
use Rattle.std.specs.Prelude.{List, Option, [], ℕ, ◌∷◌, ◌≡◌}
use Rattle.urb_stable.specs.Entries.{Entry}
use Rattle.urb_world.specs.Scenes.{Scene}
use Rattle.urb_world.specs.World.{image_of, opened}
use Rattle.urb_world.specs.internal.Examples.{limits, pending}
use Rattle.urb_script.specs.Commands.{Command, Submit, Tick}
use Rattle.urb_script.specs.Steps.{answer, new_scene}

-- a new group of three
abbrev pub of_three : Scene
of_three = new_scene (limits 3 10)

-- the same group when node 1 holds a first message for its storage
abbrev pub drafted : Scene
drafted = (answer of_three (Submit 1 7 1 (97 ∷ []))).1

-- images of three nodes, of which two have stored the first message of node 1
abbrev pub held_by_two : ℕ → List Entry
held_by_two = image_of ((pending 1 1 ∷ []) ∷ (pending 1 1 ∷ []) ∷ [] ∷ [])

-- the group of three that holds these images
abbrev pub holding : Scene
holding = record { world = opened (limits 3 10) held_by_two; storage = held_by_two }

-- by this rule only `tick 1` is answered: with no text, and the group is as new
abbrev pub ticks : Option Scene → Command → List ℕ → Scene → Type 0
ticks old asked text new = (asked ≡ Tick 1) × (text ≡ []) × (new ≡ of_three)

-- no bytes
abbrev pub IsNothing : List ℕ → Type 0
IsNothing bytes = bytes ≡ []
