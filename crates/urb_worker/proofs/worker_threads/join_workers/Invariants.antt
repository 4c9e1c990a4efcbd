use Rattle.std.proofs.Common.{◌≡◌, ◌≤◌, length, vec_len, vec_capacity}
use Rattle.urb_worker.specs.ServedStores.{AreServed}
use Rattle.urb_worker.specs.internal.ServedStores.{AllKeepUp, each, in_either}
use Rattle.urb_worker.proofs.worker_threads.join_workers.Given as goal

abbrev pub invariant-loop-worker : goal.invariant-loop-worker
invariant-loop-worker g l = record {
  stores : vec_len l.stores ≡ length l.yielded;
  tallies : vec_len l.tallies ≡ length l.yielded;
  places : vec_len l.fn.workers ≤ vec_capacity l.stores;
  counts : vec_len l.fn.workers ≤ vec_capacity l.tallies;
  order : AreServed g.S.Stable g.K.HouseName.origin
      (each l.yielded
      (λ worker. in_either worker (λ thread. thread.promise.node) (λ left. left.node)))
      (each l.yielded
      (λ worker. in_either worker (λ thread. thread.promise.came.value) (λ left. left.came)))
      l.stores.items;
  keeps : AllKeepUp g.S.Stable g.K.HouseName.origin
      (each l.yielded
      (λ worker. in_either worker (λ thread. thread.promise.node) (λ left. left.node)))
      (each l.yielded
      (λ worker. in_either worker (λ thread. thread.promise.came.value) (λ left. left.came)))
      l.stores.items l.tallies.items;
}
