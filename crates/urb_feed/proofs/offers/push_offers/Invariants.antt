use Rattle.urb_feed.proofs.Common.{Shows, World, flat_map, numbers_from, offer, ◌++◌, ◌-◌, ◌≡◌}
use Rattle.urb_feed.proofs.offers.push_offers.Given as goal

-- the offers of the nodes so far
abbrev pub invariant-loop-number : goal.invariant-loop-number
invariant-loop-number g l =
    (w : World) → Shows l.group w → l.packets.items ≡ l.fn.packets.items
    ++ flat_map (offer w l.target l.name) (numbers_from 1 (l.number - 1))
