use Rattle.urb_cli.proofs.AnsweredStatuses.{was_listed, was_unread}
use Rattle.urb_cli.proofs.client.run.read_and_show.Goals as goal

pub returns-clause-listed : goal.returns-clause-listed
returns-clause-listed g c = λ zero.
    was_listed g.A.Asker.answers _ _ _ _ c.read_by-outcome.result _ c.show.ensures.shown
    c.show.ensures.fault c.read_by-outcome.ensures.shown zero

pub returns-clause-refused : goal.returns-clause-refused
returns-clause-refused g c = λ four.
    was_unread g.A.Asker.answers _ _ _ _ c.read_by-outcome.result _ c.show.ensures.shown
    c.show.ensures.fault c.read_by-outcome.ensures.shown four
