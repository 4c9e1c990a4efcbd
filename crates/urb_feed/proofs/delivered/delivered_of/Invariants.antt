use Rattle.urb_feed.proofs.Common.{length, part_of, take, ◌≡◌, ◌≤◌}
use Rattle.urb_feed.proofs.delivered.delivered_of.Given as goal

-- no name of the sender is after this place
abbrev pub invariant-loop-left : goal.invariant-loop-left
invariant-loop-left l =
    (l.left ≤ length l.log) × (part_of l.sender l.log ≡ part_of l.sender (take l.left l.log))

abbrev pub decreases-loop-left : goal.decreases-loop-left
decreases-loop-left l = l.left
