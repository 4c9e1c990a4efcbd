use Rattle.urb_window.proofs.Common.{AreOver, counted_from, deque_len, length, ◌++◌, ◌+◌, ◌<◌, ◌^◌}
use Rattle.urb_window.proofs.Common.{◌≡◌, ◌≤◌}
use Rattle.std.proofs.Common.{vec_capacity, vec_len}
use Rattle.urb_window.proofs.window.close_gap.Given as goal

-- the same pairs, an upper part above the lower one, and space for all of them
abbrev pub invariant-loop-value : goal.invariant-loop-value
invariant-loop-value g l = record {
  pairs : counted_from 1 l.low.items ++ l.above.items ≡ counted_from 1 l.initial.low.items
      ++ l.initial.above.items;
  over : AreOver (length l.low.items) l.above.items;
  few : length l.low.items < 2 ^ 32;
  room : vec_len l.low + deque_len l.above ≤ vec_capacity l.low;
}

abbrev pub decreases-loop-value : goal.decreases-loop-value
decreases-loop-value g l = deque_len l.above
