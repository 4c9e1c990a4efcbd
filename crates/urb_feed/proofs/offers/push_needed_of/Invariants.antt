use Rattle.urb_feed.proofs.Common.{Shows, World, needed_of, suc, ◌++◌, ◌-◌, ◌≡◌}
use Rattle.urb_feed.proofs.offers.push_needed_of.Given as goal

-- what the target needs of the numbers so far
abbrev pub invariant-loop-before : goal.invariant-loop-before
invariant-loop-before g l =
    (w : World) → Shows l.group w → l.packets.items ≡ l.fn.packets.items
    ++ needed_of w l.target (suc l.from) (l.before - l.from) l.sender
