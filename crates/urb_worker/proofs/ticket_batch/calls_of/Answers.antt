use Rattle.std.proofs.Common.{rules, sym, ◌∙◌}
use Rattle.urb_worker.proofs.TicketBatches.{calls-cut, calls-none, next-call, next-none}
use Rattle.urb_worker.proofs.ticket_batch.calls_of.Goals as goal
use Rattle.urb_worker.proofs.ticket_batch.calls_of.Goals.{in-Some+in_default-reserve, in_default}

pub loop-ticket-init : goal.loop-ticket-init
loop-ticket-init g c =
    calls-none c.args.node (λ ticket. ticket.job) c.args.tickets.now 0 c.new-calls.result.items
    (search rules)

pub returns-in-Err : goal.returns-in-Err
returns-in-Err g c =
    calls-cut c.args.node (λ ticket. ticket.job) c.args.tickets.now c.loop-ticket.ticket-index
    c.ticket-item.result c.loop-ticket.calls.items c.reserve.new.self.items c.in-Some.call
    c.from.result c.loop-ticket-test.true c.ticket-item.is
    (sym c.turns_over.ensures ∙ c.if-turns_over.false) c.in-Some.ensures c.loop-ticket.invariant
    c.reserve.ensures.items

pub loop-ticket-preserved : goal.loop-ticket-preserved
loop-ticket-preserved g c =
    elim c.match-call_at.branch [
      | in-Some+in_default-reserve w ↦
          rw w.calls-is
          (next-call c.args.node (λ ticket. ticket.job) c.args.tickets.now
          c.loop-ticket.ticket-index c.ticket-item.result c.loop-ticket.calls.items
          w.push_reserved.new.self.items w.in-Some.call c.loop-ticket-test.true c.ticket-item.is
          (sym c.turns_over.ensures ∙ c.if-turns_over.false)
          (rw w.in-Some.is at c.call_at.ensures) c.loop-ticket.invariant
          (rw w.reserve.ensures.items at w.push_reserved.ensures.items))
      | in_default w ↦
          rw w.calls-is
          (next-none c.args.node (λ ticket. ticket.job) c.args.tickets.now
          c.loop-ticket.ticket-index c.ticket-item.result c.loop-ticket.calls.items
          c.loop-ticket-test.true c.ticket-item.is
          (sym c.turns_over.ensures ∙ c.if-turns_over.false)
          (rw w.in_default.is at c.call_at.ensures) c.loop-ticket.invariant)
    ]
