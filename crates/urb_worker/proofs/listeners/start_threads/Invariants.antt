use Rattle.std.proofs.Common.{◌≡◌}
use Rattle.urb_worker.proofs.listeners.start_threads.Given as goal

abbrev pub invariant-loop-place : goal.invariant-loop-place
invariant-loop-place g l = l.listening.last ≡ l.place
