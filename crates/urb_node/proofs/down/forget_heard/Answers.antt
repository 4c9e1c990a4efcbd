use Rattle.urb_node.proofs.JoinedLayers.{down-kept}
use Rattle.urb_node.proofs.down.forget_heard.Goals as goal

pub returns-clause-fallen : goal.returns-clause-fallen
returns-clause-fallen g c =
    down-kept c.args.held c.forget.new.self c.forget-2.new.self c.args.doubt.now c.requires.kept
    c.requires.next c.forget.ensures c.forget-2.ensures
