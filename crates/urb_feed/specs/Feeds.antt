-- A feed: it goes through the numbers of names in portions, and makes what its target needs.
use Rattle.std.specs.Prelude.{List, [], length, max, suc, ℕ, ◌-◌, ◌<◌, ◌≡◌, ◌≤◌, ◌∷◌}
use Rattle.urb_feed.specs.MissingNames.{needed_from}
use Rattle.urb_feed.specs.declared.feed.TheConstants.{MOST_PACKETS}
use Rattle.urb_group.specs.GroupViews.{GroupView, Shows}
use Rattle.urb_world.specs.World.{World}
use Rattle.urb_names.specs.CarriedPackets.{Carried}
use Rattle.urb_names.specs.Nodes.{nodes}

-- a feed of a target: names with numbers up to `after` are done, those up to `end` follow
pub record FeedView : Type 0 where
  pub target : ℕ
  pub after : ℕ
  pub end : ℕ

-- the greatest of the values at these numbers, or 0 if there is none
abbrev pub greatest : (ℕ → ℕ) → List ℕ → ℕ
greatest f [] = 0
greatest f (n ∷ ns) = max (f n) (greatest f ns)

-- the greatest number of messages that a node has broadcast
abbrev pub most_broadcast : World → ℕ
most_broadcast w = greatest (λ s. length (w.node s).broadcast) (nodes w.size.n)

-- a feed that has done nothing, and will go through all names
abbrev pub whole_feed : World → ℕ → FeedView
whole_feed w q = record { target = q; after = 0; end = most_broadcast w }

-- A portion of a feed. Its packets are what the target needs of the names that the feed went
-- through. That is at least one number if any was left, and none past the end.
pub record IsPortion (group : GroupView) (old new : FeedView) (packets : List Carried) : Type 0
  where
    pub needed : (w : World) → Shows group w
        → packets ≡ needed_from w old.target (suc old.after) (new.after - old.after)
    pub same : (new.target ≡ old.target) × (new.end ≡ old.end)
    pub within : (old.after ≤ new.after) × (new.after ≤ old.end)
    pub onward : old.after < old.end → old.after < new.after
    pub few : length packets ≤ MOST_PACKETS
