use Rattle.urb_foresight.proofs.HeldPackets.{holds-none, holds-same}
use Rattle.urb_foresight.proofs.taken_packets.holds_message.Goals as goal

pub returns-in-Some : goal.returns-in-Some
returns-in-Some g c w shows =
    holds-same c.args.group.now w shows c.args.node c.args.name _ c.in-Some.held.now
    c.args.message.now ((rw c.in-Some.is at c.message.ensures) w shows) c.is_same.ensures

pub returns-in-None : goal.returns-in-None
returns-in-None g c w shows =
    holds-none c.args.group.now w shows c.args.node c.args.name c.args.message.now
    ((rw c.in-None.is at c.message.ensures) w shows)
