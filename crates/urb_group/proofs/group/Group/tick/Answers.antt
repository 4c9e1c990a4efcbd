use Rattle.urb_group.proofs.Common.{Tick, rules}
use Rattle.urb_group.proofs.moves.GroupMoves.{tick-moved}
use Rattle.urb_group.proofs.shown.NodeMoves.{nowhere}
use Rattle.urb_group.proofs.group.Group.tick.Goals as goal

pub returns-in_default : goal.returns-in_default
returns-in_default g c =
    rw (← c.self.view_is) (nowhere c.self.inside.config c.self.inside.nodes.items
    (Tick c.args.node) tt c.in_default.ensures)

pub invariant_of-self : goal.invariant_of-self
invariant_of-self g c =
    (tick-moved c.self.invariant c.in-Some.ensures.1 c.move_node.ensures.moved
    c.move_node.ensures.was c.move_node.ensures.back c.move_node.result
    (let step = c.move_node.ensures.step in search rules)).1

pub returns : goal.returns
returns g c =
    rw (← c.self.view_is)
    (tick-moved c.self.invariant c.in-Some.ensures.1 c.move_node.ensures.moved
    c.move_node.ensures.was c.move_node.ensures.back c.move_node.result
    (let step = c.move_node.ensures.step in search rules)).0
