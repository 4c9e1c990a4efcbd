-- A node's feed, and its portions, of the group in a House.
use Rattle.std.specs.Prelude.{List, ℕ, ◌≡◌}
use Rattle.urb_feed.specs.Feeds.{FeedView, IsPortion, whole_feed}
use Rattle.urb_group.specs.GroupViews.{GroupView, IsSound, Shows}
use Rattle.urb_world.specs.Step.{Event}
use Rattle.urb_world.specs.World.{World}
use Rattle.urb_names.specs.CarriedPackets.{Carried}
use Rattle.urb_show.specs.Pasts.{IsLedTo}

-- a feed of node n that has done nothing, and will go through all names of this group
pub record BeginsFeed (group : GroupView) (n : ℕ) (feed : FeedView) : Type 0 where
  pub sound : IsSound group
  pub whole : (w : World) → Shows group w → feed ≡ whole_feed w n

-- the same, of a group to which a history led from the opened one
pub record IsFeedOf (opened : GroupView) (n : ℕ) (feed : FeedView) : Type 0 where
  pub past : List Event
  pub group : GroupView
  pub leads : IsLedTo opened past group
  pub begins : BeginsFeed group n feed

-- a portion of a feed, of a group to which a history led from the opened one
pub record IsNextPortion (opened : GroupView) (old new : FeedView) (packets : List Carried) : Type 0
  where
    pub past : List Event
    pub group : GroupView
    pub leads : IsLedTo opened past group
    pub sound : IsSound group
    pub portion : IsPortion group old new packets
