use Rattle.urb_turn.proofs.EventNodes.{committed_node}
use Rattle.urb_turn.proofs.turn_stages.commit_receipt.Goals as goal

pub settle_released-settling-requires : goal.settle_released-settling-requires
settle_released-settling-requires g c h =
    rw c.node-node.ensures
    (committed_node _ _ c.args.receipt c.in-Ok.done _ c.recall.ensures.sound
    c.recall.ensures.counted.1 c.in-Ok.ensures.step)
