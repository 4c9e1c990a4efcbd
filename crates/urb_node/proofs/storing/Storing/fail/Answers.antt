use Rattle.urb_node.proofs.Common.{Fails, Fallen, Holding, memory_of, subst, sym}
use Rattle.urb_node.proofs.NodeFailures.{doubtful-next}
use Rattle.urb_node.proofs.JoinedLayers.{falls}
use Rattle.urb_node.proofs.storing.Storing.fail.Goals as goal

pub take_down-requires-clause-next : goal.take_down-requires-clause-next
take_down-requires-clause-next g c =
    doubtful-next c.self.inside.held c.self.inside.entry c.self.invariant.next

pub returns : goal.returns
returns g c =
    let held : Holding = record {
      memory = memory_of c.self.inside.held;
      entry =
          c.self.inside.entry;
      cause = c.self.inside.cause;
    } in
    subst (λ (h : Holding). Fails h c.take_down.result) c.self.view_is
    (subst (λ (f : Fallen). Fails held f) (sym c.take_down.ensures) (falls held))
