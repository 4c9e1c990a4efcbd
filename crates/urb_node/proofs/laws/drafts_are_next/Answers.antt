use Rattle.urb_node.proofs.NextRecords.{arrival-next, certificate-next, submit-next}
use Rattle.urb_node.proofs.laws.drafts_are_next.Goals as goal

pub returns-clause-submit : goal.returns-clause-submit
returns-clause-submit c = submit-next

pub returns-clause-arrival : goal.returns-clause-arrival
returns-clause-arrival c = arrival-next

pub returns-clause-certificate : goal.returns-clause-certificate
returns-clause-certificate c = certificate-next
