-- Words of the worked examples: groups of some size, and the drafts that their nodes hold.
use Prim.Native.String.{String}
use Rattle.std.specs.Prelude.{List, None, replicate, true, [], ℕ, ◌∷◌}
use Rattle.urb_names.specs.Names.{name}
use Rattle.urb_node.specs.NodeViews.{NodeView, no_view}
use Rattle.urb_node.specs.Part.{Down, Storing}
use Rattle.urb_stable.specs.Entries.{Entry}
use Rattle.urb_stable.specs.MemoryStores.{Memory}
use Rattle.urb_stable.specs.PlacedRecords.{Placed}
use Rattle.urb_node.specs.Replies.{Done}
use Rattle.urb_group.specs.GroupStores.{Clustered}
use Rattle.urb_group.specs.GroupViews.{GroupView}
use Rattle.urb_stable.specs.declared.record.Record.TheVariants.{Pend, PendCert}
use Rattle.urb_world.specs.World.{World, image_of, opened}
use Rattle.urb_world.specs.internal.Examples.{certified, limits, pending}
use Rattle.urb_world.specs.internal.Scripts.{message}

-- a new group of n nodes
abbrev pub new_group : ℕ → GroupView
new_group n = record { size = limits n 10; nodes = [] }

-- a group of n nodes, of which node 1 holds this in memory and the others nothing
abbrev pub group_with : ℕ → NodeView → GroupView
group_with n view = record { size = limits n 10; nodes = view ∷ [] }

-- a group of n nodes that shows no world: its node 1 has stored no record, and has delivered a name
abbrev pub of_no_world : ℕ → GroupView
of_no_world n = group_with n (record no_view { log = name 1 1 ∷ [] })

-- a group of n nodes, of which node 1 holds a draft of this record
abbrev pub drafting : ℕ → Entry → GroupView
drafting n entry = group_with n (record no_view { state = Storing entry None })

-- a group of n nodes, of which node 1 is down
abbrev pub fallen : ℕ → GroupView
fallen n = group_with n (record no_view { state = Down None })

-- what a node holds in memory that has certified node 1's message of this number alone, with this
-- payload
abbrev pub certified_view : ℕ → String → NodeView
certified_view number letters = record no_view {
  pairs = (name 1 number, message 7 number letters) ∷ [];
  certified = name 1 number ∷ [];
  log = name 1 number ∷ [];
  count = 1;
}

-- a group of n nodes, of which node 1 has certified its first message
abbrev pub certifying : ℕ → GroupView
certifying n = group_with n (certified_view 1 "")

-- a group of n nodes, of which nodes 1 and 2 hold this in memory and the others nothing
abbrev pub group_of_two : ℕ → NodeView → NodeView → GroupView
group_of_two n one two = record { size = limits n 10; nodes = one ∷ two ∷ [] }

-- a world in which two of three nodes have certified different messages under one name
abbrev pub disagreeing : World
disagreeing = opened (limits 3 10) (image_of ((certified 1 1 ∷ [])
    ∷ (PendCert (name 1 1) (message 7 1 "b") ∷ []) ∷ []))

-- a draft of this record for node p, at this position
abbrev pub draft : ℕ → ℕ → Entry → Placed
draft p position entry = record { node = p; pos = position; entry = entry }

-- the draft of the first message of node 1
abbrev pub first_draft : Placed
first_draft = draft 1 1 (pending 1 1)

-- a receipt for node 0, which no group has
abbrev pub of_node_0 : Placed
of_node_0 = draft 0 1 (pending 0 1)

-- this group, over these stores
abbrev pub clustered : {S : Type 0} → GroupView → List S → Clustered S
clustered group stores = record { group = group; stores = stores }

-- what is told of the first record of node 1 once it is stored: nothing was sent, and no name is
-- released
abbrev pub told_done : Done
told_done = record { accepted = true; name = name 1 1; sent = []; released = 0 }

-- a new cluster of n nodes, without stores
abbrev pub new_cluster : ℕ → Clustered Memory
new_cluster n = clustered (new_group n) []

-- what node 1 holds in memory that has stored its first message, which is pending
abbrev pub one_pending : NodeView
one_pending = record no_view {
  pairs = (name 1 1, message 7 1 "") ∷ [];
  count = 1;
  acks = (name 1 1, 1) ∷ [];
}

-- what a node holds in memory that has delivered two messages of node 1
abbrev pub two_delivered : NodeView
two_delivered = record no_view {
  pairs = (name 1 1, message 7 1 "") ∷ (name 1 2, message 7 2 "") ∷ [];
  certified = name 1 1 ∷ name 1 2 ∷ [];
  log = name 1 1 ∷ name 1 2 ∷ [];
  count = 2;
}

-- a group of n nodes, each with a place in memory; none holds anything
abbrev pub counted_group : ℕ → GroupView
counted_group n = record { size = limits n 10; nodes = replicate n no_view }

-- what node 2 holds in memory that has stored another first message of node 1, which is pending
abbrev pub another_pending : NodeView
another_pending = record no_view {
  pairs = (name 1 1, message 7 1 "b") ∷ [];
  count = 1;
  acks = (name 1 1, 2) ∷ [];
}

-- a world in which node 1 of three has certified its first message, and node 2 has stored another
-- one under that name
abbrev pub misled : World
misled = opened (limits 3 10) (image_of ((certified 1 1 ∷ [])
    ∷ (Pend (name 1 1) (message 7 1 "b") ∷ []) ∷ []))
