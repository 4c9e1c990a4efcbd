use Rattle.urb_group.proofs.Common.{Commit, refl, rules}
use Rattle.urb_group.proofs.moves.GroupMoves.{commit-moved}
use Rattle.urb_group.proofs.shown.NodeMoves.{nowhere}
use Rattle.urb_group.proofs.group.Group.commit.Goals as goal

pub returns-in_default : goal.returns-in_default
returns-in_default g c =
    let receipt = c.args.receipt in
    rw (← c.self.view_is) (
      nowhere c.self.inside.config c.self.inside.nodes.items
          (Commit receipt.node receipt.pos receipt.entry) tt
          (rw c.node.ensures at c.in_default.ensures),
      refl,
    )

pub invariant_of-self : goal.invariant_of-self
invariant_of-self g c =
    (commit-moved c.self.invariant (rw c.node.ensures at c.in-Some.ensures.1)
    c.move_node.ensures.moved c.move_node.ensures.was c.move_node.ensures.back c.args.receipt refl
    c.move_node.result (let step = c.move_node.ensures.step in search rules)).1

pub returns : goal.returns
returns g c =
    rw (← c.self.view_is)
    (commit-moved c.self.invariant (rw c.node.ensures at c.in-Some.ensures.1)
    c.move_node.ensures.moved c.move_node.ensures.was c.move_node.ensures.back c.args.receipt refl
    c.move_node.result (let step = c.move_node.ensures.step in search rules)).0
