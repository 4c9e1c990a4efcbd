use Rattle.urb_turn.proofs.Common.{AllRest, Event, List, LoanEnds, Option, ap, arith, slice_set}
use Rattle.urb_turn.proofs.Common.{subst, sym, ◌-◌, ◌∙◌}
use Rattle.urb_turn.proofs.LastLoans.{finishes_on}
use Rattle.urb_turn.proofs.counting.counted_house.CountedHouse.finish.Goals as goal

-- each node has rested since its worker's last loan, of which this is one
pub invariant_of-self : goal.invariant_of-self
invariant_of-self g c =
    subst (λ (l : LoanEnds). AllRest l c.finish-finished.new.house.past)
    (sym (c.end_loan.ensures.last
    ∙ ap (λ (o : Option (List Event)). slice_set c.self.inside.last (c.args.node - 1) o)
    c.end.ensures))
    (finishes_on g.K.HouseName.origin c.args.node c.self.inside.last c.self.inside.house
    c.finish-finished.new.house c.args.turn c.finish-finished.result
    (omega (arith, c.place_of.ensures)) c.requires.runs c.finish-finished.ensures.begun
    c.finish-finished.ensures.step c.finish-finished.ensures.loans c.self.invariant)
