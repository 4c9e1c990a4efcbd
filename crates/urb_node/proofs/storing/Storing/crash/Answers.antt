use Rattle.urb_node.proofs.NodeFailures.{crash-as-fail}
use Rattle.urb_node.proofs.storing.Storing.crash.Goals as goal

pub returns : goal.returns
returns g c = crash-as-fail c.args.self c.fail.result c.fail.ensures
