-- A feed of a House that a worker has borrowed, and its portions.
use Rattle.urb_turn.proofs.Common.{Carried, GroupView, HouseView, IsSound, List, Shows, World, ℕ}
use Rattle.urb_turn.proofs.Common.{◌≡◌}
use Rattle.urb_show.specs.Pasts.{IsLedTo}
use Rattle.urb_feed.specs.Feeds.{FeedView, IsPortion, whole_feed}
use Rattle.urb_turn.specs.NodeFeeds.{BeginsFeed, IsFeedOf, IsNextPortion}

-- a feed that a worker begins
pub begins_feed : (group : GroupView) (n : ℕ) (feed : FeedView) → IsSound group
    → ((w : World) → Shows group w → feed ≡ whole_feed w n) → BeginsFeed group n feed
begins_feed group n feed sound whole = record { sound = sound; whole = whole }

-- a feed that begins in a House that the worker has borrowed is a feed of its node
pub lends_feed : (opened : GroupView) (lent : HouseView) (n : ℕ) (feed : FeedView)
    → IsLedTo opened lent.past lent.group → BeginsFeed lent.group n feed → IsFeedOf opened n feed
lends_feed opened lent n feed leads begins =
    record { past = lent.past; group = lent.group; leads = leads; begins = begins }

-- a portion of it
pub lends_portion : (opened : GroupView) (lent : HouseView) (old new : FeedView)
    (packets : List Carried) → IsLedTo opened lent.past lent.group → IsSound lent.group
    → IsPortion lent.group old new packets → IsNextPortion opened old new packets
lends_portion opened lent old new packets leads sound portion = record {
  past = lent.past;
  group = lent.group;
  leads = leads;
  sound = sound;
  portion = portion;
}
