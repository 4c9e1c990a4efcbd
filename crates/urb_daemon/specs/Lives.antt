-- The life of a group over any number of starts.
use Rattle.std.specs.Prelude.{List, length, ℕ, ◌≡◌, ◌≤◌}
use Rattle.urb_names.specs.LabelsAndContents.{Limits}
use Rattle.urb_stable.specs.Entries.{Entry}
use Rattle.urb_stable.specs.Fitting.{Fits}
use Rattle.urb_group.specs.GroupViews.{GroupView, IsSound, Shows}
use Rattle.urb_world.specs.ProcessStops.{MayLeave}
use Rattle.urb_world.specs.RecoveryPlans.{after}
use Rattle.urb_world.specs.Step.{Event}
use Rattle.urb_world.specs.StoresAhead.{IsAsStored}
use Rattle.urb_world.specs.World.{World, image_of, opened}

-- The process stopped in this world, and this group was opened from these images of its nodes. A
-- stop may leave them, and they fit together. The group has at least as many nodes as before.
pub record OpensAfter (v : World) (size : Limits) (images : List (List Entry))
    (group : GroupView) : Type 0 where
  pub nodes : v.size.n ≤ size.n
  pub one_each : length images ≡ size.n
  pub left : (p : ℕ) → MayLeave (v.node p) (image_of images p)
  pub fits : Fits size (image_of images)
  pub sound : IsSound group
  pub shows : Shows group (opened size (image_of images))

-- Any number of runs and starts lead from the first world to this one. A run is a list of events, and
-- may be cut off after each of them, because the process may be killed at any moment. Then stores may
-- hold records ahead of their events.
pub data Lives (w : World) : World → Type 0 where
  Stays : Lives w w
  Runs : (v : World) (events : List Event) → Lives w v → Lives w (after v events)
  Stores : (v u : World) → Lives w v → IsAsStored v u → Lives w u
  Starts : (v : World) (size : Limits) (images : List (List Entry)) (group : GroupView)
      → Lives w v → OpensAfter v size images group → Lives w (opened size (image_of images))
