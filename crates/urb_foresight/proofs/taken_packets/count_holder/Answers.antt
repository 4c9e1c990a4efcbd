use Rattle.std.proofs.Common.{false, refl, true}
use Rattle.urb_foresight.proofs.HeldPackets.{holder-is}
use Rattle.urb_foresight.proofs.taken_packets.count_holder.Goals as goal

pub returns-then-holds_message-clause-count : goal.returns-then-holds_message-clause-count
returns-then-holds_message-clause-count g c w shows =
    holder-is w c.args.node c.args.name c.args.message.now true 1 (c.requires w shows) refl
    (rw c.if-holds_message.true at (c.holds_message.ensures w shows))

pub returns-clause-count : goal.returns-clause-count
returns-clause-count g c w shows =
    holder-is w c.args.node c.args.name c.args.message.now false 0 (c.requires w shows) refl
    (rw c.if-holds_message.false at (c.holds_message.ensures w shows))
