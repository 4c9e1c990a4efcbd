use Rattle.std.proofs.Common.{◌≡◌, ◌≤◌, vec_len, vec_capacity}
use Rattle.urb_worker_tests.proofs.tests.groups.make_stations.Given as goal

abbrev pub invariant-loop-i : goal.invariant-loop-i
invariant-loop-i g l = (vec_len l.all ≡ l._i) × (l.nodes ≤ vec_capacity l.all)
