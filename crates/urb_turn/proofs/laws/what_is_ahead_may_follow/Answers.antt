use Rattle.urb_turn.proofs.OtherNodes.{rested-tail}
use Rattle.urb_turn.proofs.TurnSteps.{working_tail}
use Rattle.urb_turn.proofs.laws.what_is_ahead_may_follow.Goals as goal

pub returns-clause-idle : goal.returns-clause-idle
returns-clause-idle g c start past n store h = h.tail

pub returns-clause-working : goal.returns-clause-working
returns-clause-working g c opened start n job before kept came turn runs shows h =
    working_tail g.S.Stable opened n job before kept came turn runs start shows h

pub returns-clause-rests : goal.returns-clause-rests
returns-clause-rests g c start earlier later n store h rested =
    rested-tail g.S.Stable start n earlier later store rested h
