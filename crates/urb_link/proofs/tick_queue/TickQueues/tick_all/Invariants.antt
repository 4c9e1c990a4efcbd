use Rattle.std.proofs.Common.{◌≡◌}
use Rattle.urb_link.proofs.tick_queue.TickQueues.tick_all.Given as goal

abbrev pub invariant-loop-place : goal.invariant-loop-place
invariant-loop-place g l = l.ticked.last ≡ l.place
