-- What nodes in their places show, together as a group.
use Rattle.std.specs.Prelude.{List, map}
use Rattle.urb_names.specs.LabelsAndContents.{Limits}
use Rattle.urb_node.specs.Part.{Down, Ready, State, Storing}
use Rattle.urb_node.specs.NodeViews.{NodeView}
use Rattle.urb_node.specs.NodeMemories.{Memory, view_in}
use Rattle.urb_group.specs.GroupViews.{GroupView}
use Rattle.urb_group.specs.declared.node_moves.Node.{Node as Place}
use Rattle.urb_group.specs.declared.node_moves.Node.TheVariants as place

-- what the node in this place holds in memory
abbrev pub memory_in : {A : Type 0} → Place A → Memory
memory_in (place.Ready a) = a
memory_in (place.Storing h) = h.memory
memory_in (place.Down f) = f.memory

-- the state that it is in
abbrev pub state_in : {A : Type 0} → Place A → State
state_in (place.Ready a) = Ready
state_in (place.Storing h) = Storing h.entry h.cause
state_in (place.Down f) = Down f.doubt

-- what the node in this place shows
abbrev pub view_at : {A : Type 0} → Place A → NodeView
view_at node = view_in (state_in node) (memory_in node)

-- what nodes in their places show, together as a group
abbrev pub shown : {A : Type 0} → Limits → List (Place A) → GroupView
shown size places = record { size = size; nodes = map view_at places }
