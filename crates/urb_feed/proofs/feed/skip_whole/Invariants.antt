use Rattle.urb_feed.proofs.Common.{LacksNoneBelow, Shows, World, ◌≤◌}
use Rattle.urb_feed.proofs.feed.skip_whole.Given as goal

-- the node lacks no name of the senders so far
abbrev pub invariant-loop-number : goal.invariant-loop-number
invariant-loop-number g l = record {
  low : l.after ≤ l.from;
  high : l.from ≤ l.end;
  none : (w : World) → Shows l.group w → LacksNoneBelow w l.target l.number l.after l.from;
}
