use Rattle.std.proofs.Common.{vec_capacity, vec_len, ◌+◌, ◌≡◌, ◌≤◌}
use Rattle.urb_daemon.proofs.AheadRuns.{HasTaken}
use Rattle.urb_daemon.proofs.run.unwrap_all.Given as goal

abbrev pub invariant-loop-store : goal.invariant-loop-store
invariant-loop-store g l = record {
  all : vec_len l.stores + vec_len l.wrapped ≡ vec_len l.initial.wrapped;
  room : vec_len l.initial.wrapped ≤ vec_capacity l.stores;
  taken : HasTaken g.S.Stable l.initial.wrapped.items l.wrapped.items l.stores.items;
}

abbrev pub decreases-loop-store : goal.decreases-loop-store
decreases-loop-store g l = vec_len l.wrapped
