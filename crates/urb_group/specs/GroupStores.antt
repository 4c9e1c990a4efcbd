-- A group with its stores, and the drafts that its nodes hold.
use Rattle.std.specs.Prelude.{List, None, Option, Some, if◌then◌else◌, suc, ℕ}
use Rattle.urb_names.specs.Nodes.{is_node}
use Rattle.urb_stable.specs.PlacedRecords.{Placed}
use Rattle.urb_node.specs.Part.{Down, Ready, State, Storing}
use Rattle.urb_group.specs.GroupViews.{GroupView, view_of}

-- a group, and the stores of the nodes 1, 2, ..; the group says which drafts are held
pub record Clustered (S : Type 0) : Type 0 where
  pub group : GroupView
  pub stores : List S

-- the draft that node p holds in this state, with `count` records stored
abbrev pub held_in : State → ℕ → ℕ → Option Placed
held_in Ready p count = None
held_in (Storing entry cause) p count = Some (record { node = p; pos = suc count; entry = entry })
held_in (Down doubtful) p count = None

-- the draft that node p of the group holds
abbrev pub held_draft : GroupView → ℕ → Option Placed
held_draft group p =
    if is_node group.size.n p then held_in (view_of group p).state p
    (view_of group p).count else None
