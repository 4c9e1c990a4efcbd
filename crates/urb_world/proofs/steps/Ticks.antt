-- A tick preserves what holds for all nodes, and sends only stored pairs.
use Rattle.urb_world.proofs.Common.{Entry, Limits, List, Node, NodeKept, all-from, cert, due}
use Rattle.urb_world.proofs.Common.{in_due, in_itself, in_resent, in_rising, pend, resends, rising}
use Rattle.urb_world.proofs.Common.{ℕ, ◌≡◌}
use Rattle.urb_world.proofs.steps.OneNodeStep.{Leads, leads-same}

-- a tick of a ready node preserves the rules
pub leads-resends : (size : Limits) (images : ℕ → List Entry) (p : ℕ) (node : Node)
    → images p ≡ node.records → NodeKept size images p node
    → Leads size images p (resends size.n p node)
leads-resends size images p node e k =
    leads-same size images p (resends size.n p node) e
    (record { kept = k.kept; state = k.state; acks = k.acks; broadcast = k.broadcast })
    (all-from size.n p (pend node.records) (cert node.records) node.heard (due size.n p node)
    (in_resent (pend node.records) node.cursor _
    (in_due (pend node.records) size.n p node.heard (rising (pend node.records))
    (in_rising (pend node.records) (pend node.records) (in_itself (pend node.records))))))
