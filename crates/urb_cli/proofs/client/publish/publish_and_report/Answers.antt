use Rattle.urb_cli.proofs.StreamEnds.{done_by_status}
use Rattle.urb_cli.proofs.client.publish.publish_and_report.Goals as goal

pub returns-clause-done : goal.returns-clause-done
returns-clause-done g c = λ zero.
    done_by_status _ _ c.publish_over-outcome.result _ c.report_stream_end.ensures.status
    c.publish_over-outcome.ensures.ended (λ other. let same = other.2 in cc) zero
