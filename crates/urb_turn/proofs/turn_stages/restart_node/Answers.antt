use Rattle.urb_turn.proofs.EventNodes.{restarted_node}
use Rattle.urb_turn.proofs.turn_stages.restart_node.Goals as goal

pub settle_released-settling-requires : goal.settle_released-settling-requires
settle_released-settling-requires g c h =
    restarted_node _ _ _ _ _ c.recall.ensures.sound c.recall.ensures.counted.1 c.in-Ok.ensures.step
