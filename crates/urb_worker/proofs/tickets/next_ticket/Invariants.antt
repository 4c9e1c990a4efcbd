use Rattle.std.proofs.Common.{◌≤◌}
use Rattle.urb_worker.proofs.tickets.next_ticket.Given as goal

-- the number of polls only falls
abbrev pub invariant-loop-polls : goal.invariant-loop-polls
invariant-loop-polls g l = l.polls ≤ l.fn.polls

abbrev pub decreases-loop-polls : goal.decreases-loop-polls
decreases-loop-polls g l = l.polls
