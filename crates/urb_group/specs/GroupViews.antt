-- What a group holds in memory, and which worlds it shows.
use Rattle.std.specs.Prelude.{List, slice_index_or, suc, zero, ℕ, ◌≡◌}
use Rattle.urb_world.specs.RunInvariant.{IsKept}
use Rattle.urb_world.specs.World.{World}
use Rattle.urb_names.specs.LabelsAndContents.{Limits}
use Rattle.urb_node.specs.NodeViews.{NodeView, ShowsNode, no_view}

-- what a group holds: its limits, and what each node holds in memory
pub record GroupView : Type 0 where
  pub size : Limits
  pub nodes : List NodeView  -- of the nodes 1, 2, ..

-- what the node of this number holds
abbrev pub view_of : GroupView → ℕ → NodeView
view_of group zero = no_view
view_of group (suc before) = slice_index_or group.nodes before no_view

-- the group shows this world
pub record Shows (group : GroupView) (w : World) : Type 0 where
  pub size : group.size ≡ w.size
  pub nodes : (p : ℕ) → ShowsNode w.size p (view_of group p) (w.node p)

-- the group shows some world that keeps the rules and the limits
pub record IsSound (group : GroupView) : Type 0 where
  pub world : World
  pub shows : Shows group world
  pub kept : IsKept world
