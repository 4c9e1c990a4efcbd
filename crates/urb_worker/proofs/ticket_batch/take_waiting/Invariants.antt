use Rattle.std.proofs.Common.{◌≤◌, ◌+◌, ◌-◌, vec_capacity, vec_len}
use Rattle.urb_foresight.specs.declared.foresight.TheConstants.{MAX_BATCH}
use Rattle.urb_worker.specs.internal.ServedStores.{each}
use Rattle.urb_worker.specs.internal.TicketBatches.{IsBatchOf}
use Rattle.urb_worker.proofs.ticket_batch.take_waiting.Given as goal

-- the tickets so far
abbrev pub invariant-loop-hopes : goal.invariant-loop-hopes
invariant-loop-hopes g l = record {
  batch : IsBatchOf l.fn.first.job (each l.tickets.items (λ ticket. ticket.job));
  most : vec_len l.tickets ≤ MAX_BATCH;
  room : MAX_BATCH ≤ vec_capacity l.tickets;
}

abbrev pub decreases-loop-hopes : goal.decreases-loop-hopes
decreases-loop-hopes g l = (MAX_BATCH - vec_len l.tickets) + l.polls
