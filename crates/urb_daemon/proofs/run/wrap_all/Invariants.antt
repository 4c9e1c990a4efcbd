use Rattle.std.proofs.Common.{map, reverse, vec_capacity, vec_len, ◌+◌, ◌++◌, ◌≡◌, ◌≤◌}
use Rattle.urb_stable.specs.AheadStores.{fresh}
use Rattle.urb_daemon.proofs.run.wrap_all.Given as goal

abbrev pub invariant-loop-store : goal.invariant-loop-store
invariant-loop-store g l = record {
  all : vec_len l.wrapped + vec_len l.stores ≡ vec_len l.initial.stores;
  room : vec_len l.initial.stores ≤ vec_capacity l.wrapped;
  kept : vec_len l.initial.stores ≤ vec_capacity l.stores;
  taken : map (fresh g.S.Stable) l.stores.items ++ reverse l.wrapped.items
      ≡ map (fresh g.S.Stable) l.initial.stores.items;
}

abbrev pub decreases-loop-store : goal.decreases-loop-store
decreases-loop-store g l = vec_len l.stores
