use Rattle.std.proofs.Common.{◌≡◌}
use Rattle.urb_small_tests.proofs.tests.fifo.is_refused_in.Given as goal

-- the configuration stays
abbrev pub invariant-loop-step : goal.invariant-loop-step
invariant-loop-step g l = l.fifo.limits ≡ l.fn.fifo.limits
