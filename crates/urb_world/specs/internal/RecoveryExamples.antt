-- Words of the worked examples of recoveries.
use Rattle.std.specs.Prelude.{Bool, List, [], false, map, true, ℕ, ◌∷◌, ◌≡◌}
use Rattle.urb_world.specs.RecoveryPlans.{after, recovery}
use Rattle.urb_world.specs.Scenes.{Scene}
use Rattle.urb_world.specs.internal.Scripts.{Line}
use Rattle.urb_world.specs.Step.{Event}
use Rattle.urb_world.specs.World.{World, image_of, opened, stored}
use Rattle.urb_names.specs.LabelsAndContents.{Label, Limits}
use Rattle.urb_names.specs.Nodes.{nodes}
use Rattle.urb_stable.specs.Entries.{Entry}
use Rattle.urb_stable.specs.DeliveredLogs.{log}

-- no storage kept a doubtful record
abbrev pub kept_none : ℕ → Bool
kept_none p = false

-- each storage kept the doubtful record
abbrev pub kept_all : ℕ → Bool
kept_all p = true

-- the group of these images
abbrev pub opened_group : Limits → List (List Entry) → Scene
opened_group size images = record
    { world = opened size (image_of images); storage = image_of images }

-- the scene after these lines
abbrev pub scene_after : Scene → List Line → Scene
scene_after scene [] = scene
scene_after scene (line ∷ lines) = scene_after (line scene).1 lines

-- the log of each node of a world
abbrev pub logs : World → List (List Label)
logs w = map (λ p. log (stored w p)) (nodes w.size.n)

-- the logs are `before` after these lines, and `delivered` once everything that is stored was
-- delivered
abbrev pub ComesTo : Scene → List Line → (ℕ → Bool) → List (List Label) → List (List Label) → Type 0
ComesTo scene lines keeps_doubtful before delivered =
    let w =
    (scene_after scene lines).world in
    (logs w ≡ before) × (logs (after w (recovery keeps_doubtful w)) ≡ delivered)

-- after these lines, these events deliver everything that is stored
abbrev pub RecoversBy : Scene → List Line → (ℕ → Bool) → List Event → Type 0
RecoversBy scene lines keeps_doubtful events =
    recovery keeps_doubtful (scene_after scene lines).world ≡ events
