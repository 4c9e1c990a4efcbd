-- What one place shows of a world, and the invariant of the places.
use Rattle.std.specs.Prelude.{List, Some, length, slice_get, suc, ℕ, ◌≡◌}
use Rattle.urb_names.specs.LabelsAndContents.{Limits}
use Rattle.urb_node.specs.Part.{Node}
use Rattle.urb_node.specs.NodeMemories.{ShowsIn}
use Rattle.urb_group.specs.GroupViews.{IsSound}
use Rattle.urb_group.specs.declared.node_moves.Node.{Node as Place}
use Rattle.urb_group.specs.PlaceViews.{memory_in, shown, state_in}

-- the node in this place shows this node of a world
abbrev pub ShowsAt : {A : Type 0} → Place A → Node → Type 0
ShowsAt place node = ShowsIn (state_in place) (memory_in place) node

-- the node in this place has the place's number, from 1, and the group's limits
pub record IsNumbered {A : Type 0} (size : Limits) (place : ℕ) (node : Place A) : Type 0 where
  pub limits : (memory_in node).limits ≡ size
  pub number : (memory_in node).node ≡ suc place

-- there is a place for each node of the group
pub record ArePlaced {A : Type 0} (size : Limits) (places : List (Place A)) : Type 0 where
  pub count : length places ≡ size.n
  pub each : (i : ℕ) (node : Place A) → slice_get places i ≡ Some node → IsNumbered size i node

-- the nodes are in their places, and together they are sound
pub record IsGroup {A : Type 0} (size : Limits) (places : List (Place A)) : Type 0 where
  pub placed : ArePlaced size places
  pub sound : IsSound (shown size places)
