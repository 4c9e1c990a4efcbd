use Rattle.urb_cli.proofs.AnsweredStatuses.{was_accepted, was_refused}
use Rattle.urb_cli.proofs.client.run.submit_and_show.Goals as goal

pub returns-clause-accepted : goal.returns-clause-accepted
returns-clause-accepted g c = λ zero.
    was_accepted g.A.Asker.answers c.args.submitting _ _ c.submit_by-outcome.result _
    c.show.ensures.shown c.show.ensures.fault c.submit_by-outcome.ensures.shown zero

pub returns-clause-refused : goal.returns-clause-refused
returns-clause-refused g c = λ four.
    was_refused g.A.Asker.answers c.args.submitting _ _ c.submit_by-outcome.result _
    c.show.ensures.shown c.show.ensures.fault c.submit_by-outcome.ensures.shown four
