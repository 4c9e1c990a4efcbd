use Rattle.std.proofs.Common.{◌≡◌, ◌+◌, ◌++◌, ◌≤◌, [], reverse, vec_len, vec_capacity}
use Rattle.urb_turn.specs.LastLoans.{AllBegin}
use Rattle.urb_worker.specs.internal.ServedStores.{each}
use Rattle.urb_worker.proofs.worker_group.make_inputs.Given as goal

abbrev pub invariant-loop-store : goal.invariant-loop-store
invariant-loop-store g l = record {
  jobs : vec_len l.jobs ≡ vec_len l.stores;
  tallies : vec_len l.tallies ≡ vec_len l.stores;
  all : vec_len l.inputs + vec_len l.stores ≡ vec_len l.initial.stores;
  room : vec_len l.initial.stores ≤ vec_capacity l.inputs;
  taken : l.stores.items ++ reverse (each l.inputs.items (λ input. input.store))
      ≡ l.initial.stores.items;
  numbered : l.jobs.items ++ reverse (each l.inputs.items (λ input. input.node))
      ≡ l.initial.jobs.items;
  begin : AllBegin l.tallies.items [];
}

abbrev pub decreases-loop-store : goal.decreases-loop-store
decreases-loop-store g l = vec_len l.stores
