use Rattle.urb_group.proofs.calls.DraftsInCalls.{ticks-tied}
use Rattle.urb_group.proofs.cluster.Cluster.tick.Goals as goal

pub invariant_of-self : goal.invariant_of-self
invariant_of-self g c = ticks-tied _ _ c.args.node _ _ c.self.invariant _ c.tick.ensures
