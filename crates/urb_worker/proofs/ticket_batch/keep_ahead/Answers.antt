use Rattle.std.proofs.Common.{Some, map}
use Rattle.urb_foresight.specs.ForeseenDrafts.{event_of}
use Rattle.urb_worker.proofs.ForeseenBatches.{prepares-less}
use Rattle.urb_worker.specs.TicketBatches.{calls_ahead}
use Rattle.urb_worker.specs.internal.ServedStores.{each}
use Rattle.urb_worker.specs.internal.TicketBatches.{AreCalls}
use Rattle.urb_worker.proofs.ticket_batch.keep_ahead.Goals as goal

pub returns-in-Some-clause-prepares : goal.returns-in-Some-clause-prepares
returns-in-Some-clause-prepares g c =
    let cut : AreCalls c.args.node (each c.args.tickets.now (λ ticket. ticket.job))
    c.calls_of-calls.result.0.items (Some c.in-Some.refused) =
    rw c.in-Some.is at c.calls_of-calls.ensures in
    prepares-less g.S.Stable g.K.HouseName.origin c.args.node
    (map (event_of c.args.node) c.deref.result.now) cut.0 cut.1
    (calls_ahead c.args.node (each c.args.tickets.now (λ ticket. ticket.job)))
    c.keep_ahead-tally.result.1 c.in-Some.refused c.args.store.now c.keep_ahead-tally.new.store
    (rw c.deref.ensures.value cut.2) c.keep_ahead-tally.ensures.prepares
