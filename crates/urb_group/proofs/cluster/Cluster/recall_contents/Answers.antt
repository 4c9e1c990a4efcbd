use Rattle.std.proofs.Common.{sym, ◌∙◌}
use Rattle.urb_group.proofs.stops.StockedPlays.{stocked-fits}
use Rattle.urb_group.proofs.cluster.Cluster.recall_contents.Goals as goal

pub returns : goal.returns
returns g c =
    rw (← c.self.view_is) (stocked-fits g.S.Stable _ c.recall.ensures.sound
    (c.self.invariant.all_stores ∙ sym c.recall.ensures.counted))
