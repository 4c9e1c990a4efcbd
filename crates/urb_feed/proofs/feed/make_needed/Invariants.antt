use Rattle.urb_feed.proofs.Common.{Shows, World, flat_map, needed_of, numbers_from, suc, ◌-◌, ◌≡◌}
use Rattle.urb_feed.proofs.feed.make_needed.Given as goal

-- what the target needs of the senders so far
abbrev pub invariant-loop-number : goal.invariant-loop-number
invariant-loop-number g l =
    (w : World) → Shows l.group w → l.packets.items
    ≡ flat_map (needed_of w l.target (suc l.from) (l.upto - l.from)) (numbers_from 1 (l.number - 1))
