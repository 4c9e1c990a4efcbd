use Rattle.urb_group.proofs.moves.PlaceMoves.{arrive_at}
use Rattle.urb_group.proofs.group.fn.Group.arrive.move_node.Goals as goal

pub returns-else-not-is_truthful : goal.returns-else-not-is_truthful
returns-else-not-is_truthful g c =
    rw c.node_after.ensures
    (arrive_at c.args.current c.in-Ready.ready c.captures.packet c.captures.is_truthful
    c.arrive.result c.in-Ready.is c.if-not-is_truthful.false c.arrive.ensures.event)
