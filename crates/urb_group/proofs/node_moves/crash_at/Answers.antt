use Rattle.urb_group.proofs.moves.PlaceMoves.{crash_ready_at, crash_storing_at}
use Rattle.urb_group.proofs.node_moves.crash_at.Goals as goal

pub returns-in-Ready : goal.returns-in-Ready
returns-in-Ready g c =
    crash_ready_at _ c.args.node c.in-Ready.ready c.crash.result c.in-Ready.is c.crash.ensures

pub returns-in-Storing : goal.returns-in-Storing
returns-in-Storing g c =
    crash_storing_at _ c.args.node c.in-Storing.storing c.crash-in-Storing.result c.in-Storing.is
    c.crash-in-Storing.ensures
