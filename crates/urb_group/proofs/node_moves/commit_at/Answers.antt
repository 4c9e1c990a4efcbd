use Rattle.std.proofs.Common.{Err, Ok}
use Rattle.urb_group.proofs.moves.PlaceMoves.{confirm_at}
use Rattle.urb_group.proofs.node_moves.commit_at.Goals as goal

pub returns-in-Ok : goal.returns-in-Ok
returns-in-Ok g c =
    confirm_at _ c.args.node c.in-Storing.storing c.args.receipt
    (Ok (c.in-Ok.ready, c.in-Ok.done)) c.in-Storing.is c.in-Ok.ensures.event

pub returns-in-Err : goal.returns-in-Err
returns-in-Err g c =
    confirm_at _ c.args.node c.in-Storing.storing c.args.receipt
    (Err (c.in-Err.storing, c.in-Err.receipt)) c.in-Storing.is c.in-Err.ensures.event
