use Rattle.urb_client.specs.Requests.{asked_by}
use Rattle.urb_client.specs.Responses.{said_by}
use Rattle.urb_desk.proofs.TrueResponses.{answers_by_work}
use Rattle.urb_desk.proofs.desk.NodeDesk.work.Goals as goal

pub returns-clause-answered : goal.returns-clause-answered
returns-clause-answered g c =
    answers_by_work g.K.HouseName.origin c.args.self.now c.respond_or_refuse.new.self
    (asked_by c.args.request.now) said_by c.respond_or_refuse.result c.requires
    (rw c.ask-came.ensures at c.respond_or_refuse.ensures.works)
