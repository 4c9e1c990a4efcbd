use Rattle.urb_pending.proofs.PairLimits.{length_bounded, length_fits}
use Rattle.urb_pending.proofs.pending.Pending.count.Goals as goal

pub overflow_cast-result : goal.overflow_cast-result
overflow_cast-result g c = rw (c.count.ensures) (length_fits _ c.self.invariant.set)

pub returns-clause-range : goal.returns-clause-range
returns-clause-range g c =
    rw (← c.self.view_is, c.count.ensures) (length_bounded _ c.self.invariant.set)
