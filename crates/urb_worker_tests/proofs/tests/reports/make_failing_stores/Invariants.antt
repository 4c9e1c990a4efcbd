use Rattle.std.proofs.Common.{◌≡◌, ◌+◌, ◌≤◌, vec_len, vec_capacity}
use Rattle.urb_worker_tests.proofs.tests.reports.make_failing_stores.Given as goal

abbrev pub invariant-loop-i : goal.invariant-loop-i
invariant-loop-i l = (vec_len l.all + 1 ≡ l._i) × (l.nodes ≤ vec_capacity l.all)
