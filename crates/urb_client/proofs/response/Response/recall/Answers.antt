use Rattle.urb_client.specs.Responses.{said_by}
use Rattle.urb_client.proofs.ResponseLimits.{said_fits}
use Rattle.urb_client.proofs.response.Response.recall.Goals as goal

pub returns-clause-short : goal.returns-clause-short
returns-clause-short g c = said_fits (said_by c.args.self.now) c.recall_values.ensures
