-- The invariant of the fields of a pending set.
use Rattle.std.specs.Prelude.{◌≡◌, ℕ, true, Some}
use Rattle.urb_names.specs.LabelsAndContents.{Label}
use Rattle.urb_names.specs.Pairs.{own as own_of}
use Rattle.urb_pending.specs.PendingSet.{IsPendingSet}
use Rattle.urb_pending.specs.internal.ClientIndex.{IsIndexOf, has_room}
use Rattle.urb_pending.specs.declared.pending.Pending.TheInside.{Inside}
use Rattle.urb_pending.specs.PendingFields.{view_of}

-- there is space for a name, and for its client if the name is the node's own
pub record HasRoomFor {A : Type 0} (a : Inside A) (x : Label) (client : ℕ) : Type 0 where
  pub under : a.windows.reserved ≡ Some x
  pub own : x.sender ≡ a.node → has_room client a.clients ≡ true

-- the fields are a pending set, the index of its own messages, and the space that is promised
pub record IsKept {A : Type 0} (a : Inside A) : Type 0 where
  pub set : IsPendingSet (view_of a)
  pub index : IsIndexOf (own_of a.node a.windows.entries) a.clients
  pub room : (x : Label) (client : ℕ) → a.reserved ≡ Some (x, client) → HasRoomFor a x client
