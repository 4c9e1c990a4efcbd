use Rattle.urb_group.proofs.Common.{Shows, World, count_by, numbers_from, shown, suc, would_hold}
use Rattle.urb_group.proofs.Common.{◌≡◌, ◌≤◌}
use Rattle.urb_group.proofs.tail_rules.count_holders.Given as goal

-- the holders among the nodes so far
abbrev pub invariant-loop-place : goal.invariant-loop-place
invariant-loop-place g l =
    record {
      holders : (w : World) → Shows (shown l.config l.nodes) w
          → l.count ≡ count_by (would_hold w (suc l.at) l.name l.message) (numbers_from 1 l.place);
      few : l.count ≤ l.place;
    }
