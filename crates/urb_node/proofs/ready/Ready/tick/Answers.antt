use Rattle.urb_node.proofs.Common.{AreFrom, AreOfStored, IfOk, Memory, Ready, ShowsReady, Ticks}
use Rattle.urb_node.proofs.Common.{memory_of, subst}
use Rattle.urb_node.proofs.OutcomeResults.{resend-kept, tick-leads, tick_keeps}
use Rattle.urb_node.proofs.SentPackets.{tick-from, tick-of_stored}
use Rattle.urb_node.proofs.ready.Ready.tick.Goals as goal

pub invariant_of-result : goal.invariant_of-result
invariant_of-result g c =
    resend-kept c.self.inside.held c.resend_due-sent.new.resend c.self.invariant
    (tick_keeps c.self.inside.held.resend c.resend_due-sent.new.resend
    (memory_of c.self.inside.held).pairs c.resend_due-sent.result c.resend_due-sent.ensures.ok
    c.resend_due-sent.ensures.err)

pub returns-clause-event : goal.returns-clause-event
returns-clause-event g c =
    let old : Memory = memory_of c.self.inside.held in
    subst (λ (a : Memory). Ticks a (
      record old {
        heard = c.resend_due-sent.new.resend.heard;
        cursor =
            c.resend_due-sent.new.resend.cursor;
      },
      c.resend_due-sent.result,
    )) c.self.view_is
    (tick-leads old c.self.inside.held.resend c.resend_due-sent.new.resend c.resend_due-sent.result
    c.recall.ensures.rising (λ i.
    record {
      limits = c.self.invariant.resend_limits i;
      node =
          c.self.invariant.resend_node i;
      cursor = c.self.inside.held.resend.cursor;
      heard =
          c.self.inside.held.resend.heard;
      roomy = c.self.inside.held.resend.roomy;
    })
    c.resend_due-sent.ensures.packets c.resend_due-sent.ensures.ok
    c.resend_due-sent.ensures.err)

pub returns-clause-memory : goal.returns-clause-memory
returns-clause-memory g c =
    subst (λ (a : Memory). IfOk c.resend_due-sent.result (AreFrom a.node a.pairs a.certified))
    c.self.view_is
    (tick-from (memory_of c.self.inside.held)
    c.self.inside.held.resend c.resend_due-sent.result c.self.invariant.resend_node
    c.resend_due-sent.ensures.packets)

pub returns-clause-stored : goal.returns-clause-stored
returns-clause-stored g c =
    subst (λ (a : Memory). IfOk c.resend_due-sent.result (AreOfStored (ShowsReady a) a.node))
    c.self.view_is
    (tick-of_stored Ready (memory_of c.self.inside.held) c.resend_due-sent.result
    (tick-from (memory_of c.self.inside.held)
    c.self.inside.held.resend c.resend_due-sent.result c.self.invariant.resend_node
    c.resend_due-sent.ensures.packets))
