use Rattle.urb_group.proofs.Common.{Restart, RestartsAt, rules}
use Rattle.urb_group.proofs.moves.GroupMoves.{restart-moved}
use Rattle.urb_group.proofs.shown.NodeMoves.{nowhere}
use Rattle.urb_group.proofs.group.Group.restart.Goals as goal

pub returns-in_default : goal.returns-in_default
returns-in_default g c =
    rw (← c.self.view_is) (nowhere c.self.inside.config c.self.inside.nodes.items
    (Restart c.args.node c.args.image.items) tt c.in_default.ensures)

pub invariant_of-self : goal.invariant_of-self
invariant_of-self g c =
    (restart-moved c.self.invariant c.in-Some.ensures.1 c.move_node.ensures.moved
    c.move_node.ensures.was c.move_node.ensures.back c.args.image.items c.move_node.result
    (let step : RestartsAt c.move_node.ensures.node c.share_image-shared.result.items
    (c.move_node.ensures.moved, c.move_node.result) =
    (let told = c.move_node.ensures.step in search rules) in
    rw c.share_image-shared.ensures at step)).1

pub returns : goal.returns
returns g c =
    rw (← c.self.view_is)
    (restart-moved c.self.invariant c.in-Some.ensures.1 c.move_node.ensures.moved
    c.move_node.ensures.was c.move_node.ensures.back c.args.image.items c.move_node.result
    (let step : RestartsAt c.move_node.ensures.node c.share_image-shared.result.items
    (c.move_node.ensures.moved, c.move_node.result) =
    (let told = c.move_node.ensures.step in search rules) in
    rw c.share_image-shared.ensures at step)).0
