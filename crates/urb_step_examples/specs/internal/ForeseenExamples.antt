-- Words of the worked examples: worlds of which something is foreseen, and what nodes offer there.
use Rattle.std.specs.Prelude.{List, None, Some, [], replicate, ℕ, ◌∷◌}
use Rattle.urb_feed.specs.Feeds.{FeedView}
use Rattle.urb_foresight.specs.internal.ForesightExamples.{four_nodes, having_stored, the_first}
use Rattle.urb_group.specs.GroupViews.{GroupView}
use Rattle.urb_names.specs.CarriedPackets.{Carried}
use Rattle.urb_names.specs.Names.{name}
use Rattle.urb_node.specs.NodeViews.{NodeView, no_view}
use Rattle.urb_node.specs.Part.{Storing}
use Rattle.urb_stable.specs.Entries.{Entry}
use Rattle.urb_world.specs.World.{World}
use Rattle.urb_world.specs.internal.Examples.{certified, flagged, limits, node_in, pending}
use Rattle.urb_world.specs.internal.Scripts.{message}

-- four nodes, each of which holds a draft of node 1's first record
abbrev pub all_drafting : World
all_drafting = record four_nodes { node = λ p. node_in (Storing (pending 1 1) None) [] }

-- as many records as may be foreseen
abbrev pub sixteen : List Entry
sixteen = replicate 16 (pending 1 1)

-- four nodes, of which the first has stored its first message, and the others nothing
abbrev pub one_of_four : World
one_of_four = having_stored (the_first ∷ [] ∷ [] ∷ [] ∷ [])

-- the image of a node that has certified node 1's first message
abbrev pub one_certified : List Entry
one_certified = certified 1 1 ∷ []

-- what a node holds in memory that has stored node 2's first message
abbrev pub holding_of_two : NodeView
holding_of_two = record no_view { pairs = (name 2 1, message 7 1 "") ∷ []; count = 1 }

-- a group of four nodes, of which nodes 2 and 3 have stored node 2's first message
abbrev pub held_by_two : GroupView
held_by_two =
    record { size = limits 4 10; nodes = no_view ∷ holding_of_two ∷ holding_of_two ∷ [] }

-- the packet in which node q offers the first message of a sender to node 3
abbrev pub first_offer : ℕ → ℕ → Carried
first_offer sender q = flagged 0 q 3 sender 1 (message 7 1 "")

-- a feed of a target that has done names up to one number, and goes on up to another one
abbrev pub feeding : ℕ → ℕ → ℕ → FeedView
feeding q after end = record { target = q; after = after; end = end }
