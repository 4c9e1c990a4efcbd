use Rattle.std.proofs.Common.{ap, rules, ◌≡◌}
use Rattle.urb_worker.proofs.ServedStores.{puts_down, with_thread}
use Rattle.urb_worker.proofs.worker_threads.start_workers.Goals as goal

pub loop-input-preserved-in-Ok-1 : goal.loop-input-preserved-in-Ok-1
loop-input-preserved-in-Ok-1 g c = record {
  all = search rules;
  room = search rules;
  queues = search rules;
  threads = with_thread _ _ _ _ c.push_reserved.ensures.items c.loop-input.invariant.threads;
  placed =
      puts_down _ _ _ _ _ _ _ _ _ c.push_reserved.ensures.items c.in-Some.ensures.items
      (search rules) c.loop-input.invariant.placed;
  numbered =
      puts_down _ _ _ _ _ _ _ _ _ c.push_reserved.ensures.items c.in-Some.ensures.items
      (search rules) c.loop-input.invariant.numbered;
}

pub loop-input-preserved : goal.loop-input-preserved
loop-input-preserved g c = record {
  all = search rules;
  room = search rules;
  queues = tt;
  threads = tt;
  placed =
      puts_down _ _ _ _ _ _ _ _ _ c.push_reserved-in-Err.ensures.items c.in-Some.ensures.items
      (search rules) c.loop-input.invariant.placed;
  numbered =
      puts_down _ _ _ _ _ _ _ _ _ c.push_reserved-in-Err.ensures.items c.in-Some.ensures.items
      (search rules) c.loop-input.invariant.numbered;
}

-- the thread has the store and the node of the promise
pub spawn_with-requires-clause-keeps : goal.spawn_with-requires-clause-keeps
spawn_with-requires-clause-keeps g c = λ lives within r left. rw c.of-kept.ensures left

-- and so has a worker without a thread
pub invariant_of-push_reserved : goal.invariant_of-push_reserved
invariant_of-push_reserved g c =
    let same : c.in-Err.refused.value.1 ≡ c.in-Some.input =
    ap (λ v. v.1) c.in-Err.ensures.err in (
      rw (c.of-came.ensures, ← same) c.work-store.ensures.0,
      rw (c.of-came.ensures, ← same) c.work-store.ensures.1,
    )
