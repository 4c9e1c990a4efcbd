use Rattle.std.proofs.Common.{Err, Ok}
use Rattle.urb_group.proofs.moves.PlaceMoves.{restart_at}
use Rattle.urb_group.proofs.node_moves.restart_at.Goals as goal

pub returns-in-Ok : goal.returns-in-Ok
returns-in-Ok g c =
    restart_at _ c.args.node c.in-Down.down c.args.image.items
    (Ok c.in-Ok.ready) c.in-Down.is c.in-Ok.ensures

pub returns-in-Err : goal.returns-in-Err
returns-in-Err g c =
    restart_at _ c.args.node c.in-Down.down c.args.image.items
    (Err (c.in-Err.down, c.in-Err.refusal)) c.in-Down.is c.in-Err.ensures
