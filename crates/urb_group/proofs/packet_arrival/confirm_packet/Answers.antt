use Rattle.urb_group.proofs.moves.PacketsAtNodes.{both_true, no_truth}
use Rattle.urb_group.proofs.packet_arrival.confirm_packet.Goals as goal

pub returns-in_default-clause-truth : goal.returns-in_default-clause-truth
returns-in_default-clause-truth g c =
    no_truth c.args.node.now c.args.packet.now c.in_default.ensures.held

pub returns-clause-truth : goal.returns-clause-truth
returns-clause-truth g c =
    both_true c.args.node.now c.args.packet.now c.is_as_certified.result c.in-Some.ensures.held
    c.is_as_certified.ensures
