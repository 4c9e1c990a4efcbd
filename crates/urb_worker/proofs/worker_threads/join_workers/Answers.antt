use Rattle.std.proofs.Common.{arith, rules}
use Rattle.std.proofs.lemmas.List.{length_push}
use Rattle.urb_worker.proofs.ServedStores.{one_left, one_left_keeps_up}
use Rattle.urb_worker.proofs.worker_threads.join_workers.Goals as goal

pub loop-worker-preserved : goal.loop-worker-preserved
loop-worker-preserved g c = record {
  stores =
      rw (length_push c.loop-worker.yielded c.in-Some.worker)
      (omega (arith, c.push_reserved.ensures.len, c.loop-worker.invariant.stores));
  tallies =
      rw (length_push c.loop-worker.yielded c.in-Some.worker)
      (omega (arith, c.push_reserved-in-loop-worker.ensures.len, c.loop-worker.invariant.tallies));
  places = search rules;
  counts = search rules;
  order =
      one_left g.S.Stable g.K.HouseName.origin _ _ _ _ _ _ _ c.loop-worker.invariant.order
      c.join_worker-store.ensures.served c.push_reserved.ensures.items;
  keeps =
      one_left_keeps_up g.S.Stable g.K.HouseName.origin _ _ _ _ _ _ _ _ _ _
      c.loop-worker.invariant.keeps c.join_worker-store.ensures.keeps
      c.push_reserved.ensures.items c.push_reserved-in-loop-worker.ensures.items;
}
