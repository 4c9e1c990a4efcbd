use Rattle.std.proofs.Common.{refl}
use Rattle.urb_worker.proofs.ServedStores.{many_tickets, one_ticket}
use Rattle.urb_worker.proofs.TicketBatches.{one-each}
use Rattle.urb_worker.specs.declared.ticket_batch.BatchEnd.TheVariants as end
use Rattle.urb_worker.specs.internal.ServedStores.{each}
use Rattle.urb_worker.proofs.worker_loop.do_tickets.Goals as goal

pub returns-in-Some-clause-served : goal.returns-in-Some-clause-served
returns-in-Some-clause-served g c =
    one_ticket g.S.Stable g.K.HouseName.origin c.args.node c.args.first.job
    (end.Feeds c.in-Some.feeds) c.args.store.now c.do_ticket.new.store c.args.outlets.now
    c.end_batch.new.self c.do_ticket.new.outlets refl c.end_batch.ensures c.do_ticket.ensures.work

pub returns-in-Ok-clause-served : goal.returns-in-Ok-clause-served
returns-in-Ok-clause-served g c =
    many_tickets g.S.Stable g.K.HouseName.origin c.args.node
    (each c.in-Ok.tickets.items (λ ticket. ticket.job)) c.take_waiting-taken.result.1
    c.args.store.now c.do_batch.new.store c.args.outlets.now c.end_batch-2.new.self
    c.do_batch.new.outlets
    (rw (one-each (λ ticket. ticket.job) c.in-Ok.tickets.items)
    (rw c.in-Ok.is at c.take_waiting-taken.ensures.end))
    c.end_batch-2.ensures c.do_batch.ensures.batch

pub returns-in-Err-clause-served : goal.returns-in-Err-clause-served
returns-in-Err-clause-served g c =
    one_ticket g.S.Stable g.K.HouseName.origin c.args.node c.in-Err.alone.job
    c.take_waiting-taken.result.1 c.args.store.now c.do_ticket-in-Err.new.store
    c.args.outlets.now c.end_batch-2.new.self c.do_ticket-in-Err.new.outlets
    (rw c.in-Err.is at c.take_waiting-taken.ensures.end) c.end_batch-2.ensures
    c.do_ticket-in-Err.ensures.work
