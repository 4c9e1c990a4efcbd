use Rattle.urb_feed.proofs.Common.{Shows, World, greatest, length, numbers_from, ◌-◌, ◌≡◌}
use Rattle.urb_feed.proofs.feed.most_broadcast.Given as goal

-- the greatest number of the nodes so far
abbrev pub invariant-loop-number : goal.invariant-loop-number
invariant-loop-number g l =
    (w : World) → Shows l.group w
    → l.most ≡ greatest (λ s. length (w.node s).broadcast) (numbers_from 1 (l.number - 1))
