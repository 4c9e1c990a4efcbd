use Rattle.urb_node.proofs.Common.{Confirms, Holding, Ok, Ready, memory_of, refl, subst}
use Rattle.urb_node.proofs.ReceiptResults.{confirm-leads}
use Rattle.urb_node.proofs.SentPackets.{of-stored, stored-from}
use Rattle.urb_node.proofs.HoldableDrafts.{one_more_fits}
use Rattle.urb_node.proofs.storing.Storing.confirm.Goals as goal

pub overflow_add-held : goal.overflow_add-held
overflow_add-held g c =
    one_more_fits c.self.inside.held c.self.invariant.held c.recall.ensures c.recall-2.ensures

pub returns-clause-event : goal.returns-clause-event
returns-clause-event g c =
    subst (λ (h : Holding). Confirms h c.args.receipt
    (Ok (
      memory_of c.apply_record-held.result.0,
      record {
        accepted = c.is_own_message-accepted.result;
        name = c.name-name.result;
        sent =
            c.self.inside.packets;
        released = c.apply_record-held.result.1;
      },
    ))) c.self.view_is
    (confirm-leads c.self.inside.held c.self.inside.entry c.self.inside.cause c.self.inside.packets
    c.args.receipt (memory_of c.apply_record-held.result.0)
    (record {
      accepted = c.is_own_message-accepted.result;
      name = c.name-name.result;
      sent =
          c.self.inside.packets;
      released = c.apply_record-held.result.1;
    })
    c.self.invariant c.recall.ensures c.recall-2.ensures c.if-not-is_receipt_of.ensures
    c.apply_record-held.ensures.memory c.is_own_message-accepted.ensures c.name-name.ensures
    refl c.apply_record-held.ensures.released)

pub returns-clause-memory : goal.returns-clause-memory
returns-clause-memory g c =
    stored-from (memory_of c.self.inside.held)
    (memory_of c.apply_record-held.result.0)
    c.self.inside.entry c.self.inside.cause c.self.inside.packets
    c.apply_record-held.ensures.memory c.self.invariant.sends

pub returns-clause-stored : goal.returns-clause-stored
returns-clause-stored g c =
    of-stored Ready (memory_of c.apply_record-held.result.0) c.self.inside.packets
    (stored-from (memory_of c.self.inside.held)
    (memory_of c.apply_record-held.result.0)
    c.self.inside.entry c.self.inside.cause c.self.inside.packets
    c.apply_record-held.ensures.memory c.self.invariant.sends)
