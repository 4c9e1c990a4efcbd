use Rattle.urb_worker.proofs.TicketBatches.{SoFar}
use Rattle.urb_worker.proofs.ticket_batch.calls_of.Given as goal

-- the calls of the tickets so far
abbrev pub invariant-loop-ticket : goal.invariant-loop-ticket
invariant-loop-ticket g l =
    SoFar l.node (λ ticket. ticket.job) l.tickets l.ticket-index l.calls.items
