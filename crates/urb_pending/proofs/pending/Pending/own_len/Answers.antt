use Rattle.std.proofs.Common.{◌∙◌}
use Rattle.urb_pending.proofs.PairSearches.{own_low}
use Rattle.urb_pending.proofs.pending.Pending.own_len.Goals as goal

pub returns-clause-value : goal.returns-clause-value
returns-clause-value g c = rw (← c.self.view_is) (c.low.ensures ∙ own_low _ c.self.invariant.set)

pub returns-clause-range : goal.returns-clause-range
returns-clause-range g c =
    rw (← c.self.view_is, c.low.ensures, own_low _ c.self.invariant.set) c.self.invariant.set.capped
