use Rattle.urb_group.proofs.moves.PacketsAtNodes.{no_pair_held, some_pair}
use Rattle.urb_group.proofs.packet_arrival.find_carried.Goals as goal

pub returns-in_err-message-clause-held : goal.returns-in_err-message-clause-held
returns-in_err-message-clause-held g c =
    rw c.from_residual.ensures
    (no_pair_held c.args.node.now c.args.packet.now (rw c.name.ensures at c.in_err-message.ensures))

pub returns-then-not-is_carried-clause-held : goal.returns-then-not-is_carried-clause-held
returns-then-not-is_carried-clause-held g c =
    rw c.if-not-is_carried.true at
    (some_pair c.args.node.now c.args.packet.now c.in_ok-message.message.now c.is_carried.result
    (rw c.name.ensures at c.in_ok-message.ensures) c.is_carried.ensures)

pub returns-clause-held : goal.returns-clause-held
returns-clause-held g c =
    rw c.if-not-is_carried.false at
    (some_pair c.args.node.now c.args.packet.now c.in_ok-message.message.now c.is_carried.result
    (rw c.name.ensures at c.in_ok-message.ensures) c.is_carried.ensures)
