use Rattle.urb_group.proofs.moves.PlaceMoves.{fail_at}
use Rattle.urb_group.proofs.node_moves.fail_at.Goals as goal

pub returns-in-Storing : goal.returns-in-Storing
returns-in-Storing g c =
    fail_at _ c.args.node c.in-Storing.storing c.fail.result c.in-Storing.is c.fail.ensures
