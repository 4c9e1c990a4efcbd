use Rattle.urb_client.specs.Requests.{asked_by}
use Rattle.urb_client.specs.Responses.{said_by}
use Rattle.urb_desk.proofs.DeskEvents.{works_by_turn}
use Rattle.urb_desk.proofs.desk.NodeDesk.respond_if_asked.Goals as goal

pub returns-in-Ok-clause-works : goal.returns-in-Ok-clause-works
returns-in-Ok-clause-works g c =
    works_by_turn g.K.HouseName.origin c.args.self.now c.respond_to_turn.new.self
    (asked_by c.args.request.now) (said_by c.respond_to_turn.result) c.in-Ok.turn
    (rw (← c.self.view_is) (rw c.in-Ok.ensures.same c.in-Ok.ensures.turn))
    c.in-Ok.ensures.outcome
    c.respond_to_turn.ensures.learnt c.respond_to_turn.ensures.said
    c.respond_to_turn.ensures.sees
