use Rattle.std.proofs.Common.{◌≡◌, ◌+◌, ◌++◌, ◌≤◌, IfSome, reverse, vec_len, vec_capacity}
use Rattle.urb_worker.specs.internal.ServedStores.{AllThere, each, in_either}
use Rattle.urb_worker.proofs.worker_threads.start_workers.Given as goal

abbrev pub invariant-loop-input : goal.invariant-loop-input
invariant-loop-input g l = record {
  all : vec_len l.inputs + vec_len l.workers ≡ vec_len l.initial.inputs;
  room : vec_len l.initial.inputs ≤ vec_capacity l.workers;
  queues : IfSome l.queues (λ kept. kept.items ≡ l.fn.queues.items);
  threads : IfSome l.queues (λ kept. AllThere l.workers.items);
  placed : each l.workers.items
      (λ worker. in_either worker (λ thread. thread.promise.came.value) (λ left. left.came))
      ++ reverse (each l.inputs.items (λ input. input.store)) ≡ reverse
      (each l.initial.inputs.items (λ input. input.store));
  numbered : each l.workers.items
      (λ worker. in_either worker (λ thread. thread.promise.node) (λ left. left.node))
      ++ reverse (each l.inputs.items (λ input. input.node)) ≡ reverse
      (each l.initial.inputs.items (λ input. input.node));
}

abbrev pub decreases-loop-input : goal.decreases-loop-input
decreases-loop-input g l = vec_len l.inputs
