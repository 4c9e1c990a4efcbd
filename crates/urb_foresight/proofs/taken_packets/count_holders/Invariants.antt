use Rattle.std.proofs.Common.{count_by, ◌-◌, ◌≡◌, ◌≤◌}
use Rattle.urb_names.specs.Nodes.{numbers_from}
use Rattle.urb_names.specs.Pairs.{has_pair}
use Rattle.urb_stable.specs.Records.{pend}
use Rattle.urb_group.specs.GroupViews.{Shows}
use Rattle.urb_world.specs.World.{World, stored}
use Rattle.urb_foresight.proofs.taken_packets.count_holders.Given as goal

-- the holders among the nodes so far
abbrev pub invariant-loop-number : goal.invariant-loop-number
invariant-loop-number g l =
    record {
      holders : (w : World) → Shows l.group w
          → l.count ≡ count_by (λ q. has_pair (pend (stored w q)) l.name l.message)
          (numbers_from 1 (l.number - 1));
      few : l.count ≤ l.number - 1;
    }
