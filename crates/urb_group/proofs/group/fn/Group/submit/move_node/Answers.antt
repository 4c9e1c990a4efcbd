use Rattle.urb_group.proofs.moves.PlaceMoves.{content, submit_at}
use Rattle.urb_group.proofs.group.fn.Group.submit.move_node.Goals as goal

pub returns-in-Ready : goal.returns-in-Ready
returns-in-Ready g c =
    rw c.node_after.ensures
    (submit_at c.args.current c.in-Ready.ready
    (content c.captures.client c.captures.number c.captures.payload.now) c.submit.result
    c.in-Ready.is c.submit.ensures.event)
