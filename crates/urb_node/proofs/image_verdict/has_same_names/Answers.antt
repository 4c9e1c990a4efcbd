use Rattle.urb_node.proofs.ImageNames.{names_judged}
use Rattle.urb_node.proofs.image_verdict.has_same_names.Goals as goal

pub returns : goal.returns
returns g c =
    names_judged c.args.image.now c.args.released.now c.args.fifo.now c.is_same.result
    c.recall.ensures c.recall-2.ensures c.requires c.is_same.ensures
