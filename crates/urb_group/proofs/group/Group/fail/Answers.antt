use Rattle.urb_world.specs.Step.{Fail}
use Rattle.urb_group.proofs.moves.GroupMoves.{fail-moved}
use Rattle.urb_group.proofs.shown.NodeMoves.{nowhere}
use Rattle.urb_group.proofs.group.Group.fail.Goals as goal

pub returns-in_default : goal.returns-in_default
returns-in_default g c =
    rw (← c.self.view_is) (nowhere c.self.inside.config c.self.inside.nodes.items
    (Fail c.args.doubt.node) tt (rw c.node.ensures at c.in_default.ensures))

pub invariant_of-self : goal.invariant_of-self
invariant_of-self g c =
    (fail-moved c.self.invariant (rw c.node.ensures at c.in-Some.ensures.1)
    c.move_node.ensures.moved c.move_node.ensures.was c.move_node.ensures.back c.move_node.result
    c.move_node.ensures.step).1

pub returns : goal.returns
returns g c =
    rw (← c.self.view_is)
    (fail-moved c.self.invariant (rw c.node.ensures at c.in-Some.ensures.1)
    c.move_node.ensures.moved c.move_node.ensures.was c.move_node.ensures.back c.move_node.result
    c.move_node.ensures.step).0
