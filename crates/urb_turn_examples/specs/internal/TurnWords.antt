-- Words of the worked examples: groups, a status, feeds, and a packet that a node offers.
use Rattle.std.specs.Prelude.{List, None, Some, [], ℕ, ◌∷◌}
use Rattle.urb_feed.specs.Feeds.{FeedView}
use Rattle.urb_group.specs.GroupViews.{GroupView}
use Rattle.urb_group.specs.declared.state.State.TheVariants as state
use Rattle.urb_node.specs.NodeViews.{no_view}
use Rattle.urb_node.specs.Part.{Storing}
use Rattle.urb_show.specs.declared.status.Status.{Status}
use Rattle.urb_world.specs.internal.Examples.{limits, pending}

-- a new group of four nodes, none of which may accept a message
abbrev pub full_group : GroupView
full_group = record { size = limits 4 0; nodes = [] }

-- a group without nodes
abbrev pub no_nodes : GroupView
no_nodes = record { size = limits 0 10; nodes = [] }

-- a group of four nodes whose node 1 holds a draft of its second message, although it has stored
-- no first one
abbrev pub with_a_gap : GroupView
with_a_gap = record {
  size = limits 4 10;
  nodes = record no_view { state = Storing (pending 1 2) None } ∷ [];
}

-- the status of a node that is storing its first record
abbrev pub storing_status : Status
storing_status = record { state = state.Storing; own = 0; logged = 0 }

-- a feed of this target that has done names up to one number, and goes on up to another one
abbrev pub feed_of : ℕ → ℕ → ℕ → FeedView
feed_of q after end = record { target = q; after = after; end = end }
