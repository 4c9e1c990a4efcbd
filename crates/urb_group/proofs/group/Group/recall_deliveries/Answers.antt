use Rattle.urb_group.proofs.Common.{length-map, view_at, ◌∙◌}
use Rattle.urb_group.proofs.shown.AgreeingDeliveries.{deliveries-agree}
use Rattle.urb_group.proofs.group.Group.recall_deliveries.Goals as goal

pub returns-clause-counted : goal.returns-clause-counted
returns-clause-counted g c =
    rw (← c.self.view_is) (length-map c.self.inside.nodes.items view_at
    ∙ c.self.invariant.placed.count)

pub returns-clause-sound : goal.returns-clause-sound
returns-clause-sound g c = rw (← c.self.view_is) c.self.invariant.sound

pub returns-clause-agree : goal.returns-clause-agree
returns-clause-agree g c =
    rw (← c.self.view_is) (deliveries-agree _ c.self.invariant.sound c.recall.ensures)
