use Rattle.std.proofs.Common.{Err, Ok}
use Rattle.urb_group.proofs.moves.PlaceMoves.{tick_at}
use Rattle.urb_group.proofs.node_moves.tick_at.Goals as goal

pub returns-in-Ok : goal.returns-in-Ok
returns-in-Ok g c =
    tick_at _ c.args.node c.in-Ready.ready (c.tick-ready.result.0, Ok c.in-Ok.packets) c.in-Ready.is
    (rw c.in-Ok.is at c.tick-ready.ensures.event)

pub returns-in-Err : goal.returns-in-Err
returns-in-Err g c =
    tick_at _ c.args.node c.in-Ready.ready
    (c.tick-ready.result.0, Err c.in-Err.NoMemory) c.in-Ready.is
    (rw c.in-Err.is at c.tick-ready.ensures.event)
