use Rattle.std.proofs.Common.{◌∙◌}
use Rattle.urb_foresight.proofs.HeldPackets.{node-told}
use Rattle.urb_foresight.proofs.taken_packets.has_node.Goals as goal

pub returns : goal.returns
returns g c w shows =
    c.is_some.ensures ∙ node-told _ _ c.state.result (c.state.ensures w shows)
