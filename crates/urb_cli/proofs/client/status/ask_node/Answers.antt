use Rattle.urb_options.specs.Addresses.{address_of}
use Rattle.urb_cli.proofs.NodeStatuses.{node_status}
use Rattle.urb_cli.proofs.client.status.ask_node.Goals as goal

pub returns-clause-status : goal.returns-clause-status
returns-clause-status g c =
    node_status g.A.Asker.answers (address_of c.args.at) _ _ c.status_by-outcome.result _
    c.show_node.ensures.shown c.show_node.ensures.fault c.status_by-outcome.ensures.shown
    c.status_by-outcome.ensures.fault
