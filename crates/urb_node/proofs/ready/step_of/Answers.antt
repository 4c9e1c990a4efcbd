use Rattle.urb_node.proofs.HoldableDrafts.{one_more_fits}
use Rattle.urb_node.proofs.ready.step_of.Goals as goal

pub overflow_add-held : goal.overflow_add-held
overflow_add-held g c =
    one_more_fits c.args.held c.requires.kept c.recall.ensures c.recall-in-Continue.ensures
