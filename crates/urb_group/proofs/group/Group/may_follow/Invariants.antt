use Rattle.urb_group.proofs.Common.{Shows, World, stored}
use Rattle.urb_group.proofs.tails.FollowedRecords.{FollowsFrom}
use Rattle.urb_group.proofs.group.Group.may_follow.Given as goal

-- all records so far may join
abbrev pub invariant-loop-i : goal.invariant-loop-i
invariant-loop-i g l =
    (w : World) → Shows l.self w
    → FollowsFrom l.self.size (stored w) l.node (stored w l.node) l.records l.i
