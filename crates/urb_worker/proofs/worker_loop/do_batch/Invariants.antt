use Rattle.urb_group.specs.GroupViews.{Shows}
use Rattle.urb_world.specs.World.{World}
use Rattle.urb_turn.specs.NodeStores.{IsStoreSince}
use Rattle.urb_worker.specs.ServedStores.{WorksAll}
use Rattle.urb_worker.specs.internal.OwnJobs.{LearnsAll}
use Rattle.urb_worker.specs.internal.ServedStores.{each}
use Rattle.urb_worker.proofs.worker_loop.do_batch.Given as goal

-- the tickets so far
abbrev pub invariant-loop-ticket : goal.invariant-loop-ticket
invariant-loop-ticket g l = record {
  works : WorksAll g.S.Stable g.K.HouseName.origin l.node
      (each l.yielded (λ ticket. ticket.job)) l.initial.store l.store l.initial.outlets l.outlets;
  keeps : (start : World) → Shows g.K.HouseName.origin start
      → IsStoreSince g.S.Stable start l.fn.tally.last l.node l.fn.store
      → IsStoreSince g.S.Stable start l.tally.last l.node l.store;
  own : LearnsAll g.K.HouseName.origin l.setting.mends l.node (each l.yielded (λ ticket. ticket.job)) l.fn.state.own
      l.state.own;
}
