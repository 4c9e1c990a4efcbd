use Rattle.urb_turn.proofs.Common.{Event, IsPrefix, IsTrue, List, Option, events_until, subst, sym}
use Rattle.urb_turn.proofs.Common.{true, ◌↔◌}
use Rattle.urb_turn.proofs.SeenEvents.{after_nothing}
use Rattle.urb_turn.proofs.loans.Loans.is_after.Goals as goal

-- no moment is the earliest one
pub returns-in-None : goal.returns-in-None
returns-in-None g c =
    subst (λ (o : Option (List Event)).
    IsTrue true ↔ IsPrefix (events_until o) c.args.self.now.first.lent) (sym c.in-None.is)
    (after_nothing c.args.self.now.first.lent)
