use Rattle.urb_group.proofs.Common.{Submit, rules}
use Rattle.urb_group.proofs.moves.GroupMoves.{submit-moved}
use Rattle.urb_group.proofs.moves.PlaceMoves.{content}
use Rattle.urb_group.proofs.shown.NodeMoves.{nowhere}
use Rattle.urb_group.proofs.group.Group.submit.Goals as goal

pub returns-in_default : goal.returns-in_default
returns-in_default g c =
    rw (← c.self.view_is) (nowhere c.self.inside.config c.self.inside.nodes.items
    (Submit c.args.node (content c.args.client c.args.number c.args.payload.now)) tt
    c.in_default.ensures)

pub invariant_of-self : goal.invariant_of-self
invariant_of-self g c =
    (submit-moved c.self.invariant c.in-Some.ensures.1 c.move_node.ensures.moved
    c.move_node.ensures.was c.move_node.ensures.back
    (content c.args.client c.args.number c.args.payload.now)
    c.move_node.result (let step = c.move_node.ensures.step in search rules)).1

pub returns : goal.returns
returns g c =
    rw (← c.self.view_is)
    (submit-moved c.self.invariant c.in-Some.ensures.1 c.move_node.ensures.moved
    c.move_node.ensures.was c.move_node.ensures.back
    (content c.args.client c.args.number c.args.payload.now)
    c.move_node.result (let step = c.move_node.ensures.step in search rules)).0
