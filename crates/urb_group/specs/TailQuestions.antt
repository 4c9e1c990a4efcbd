-- What a group answers if it is asked whether records may follow those of a node.
use Rattle.std.specs.Prelude.{Bool, IsTrue, List, ℕ, ◌↔◌}
use Rattle.urb_group.specs.GroupViews.{GroupView, Shows}
use Rattle.urb_world.specs.World.{World, stored}
use Rattle.urb_names.specs.Nodes.{is_node}
use Rattle.urb_stable.specs.Entries.{Entry}
use Rattle.urb_world.specs.StoresAhead.{MayFollow}

-- whether the group has node p and these records may follow p's: the answer for every world that
-- the group shows
abbrev pub TellsTail : GroupView → ℕ → List Entry → Bool → Type 0
TellsTail group p tail result =
    (w : World) → Shows group w
    → IsTrue result
    ↔ (IsTrue (is_node w.size.n p) × MayFollow w.size (stored w) p (stored w p) tail)
