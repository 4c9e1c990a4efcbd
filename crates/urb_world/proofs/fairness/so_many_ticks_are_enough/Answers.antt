-- A node has no more pending than all storages took.
use Rattle.std.proofs.Common.{arith}
use Rattle.urb_world.proofs.recovery.FullDelivery.{reached-sound}
use Rattle.urb_world.proofs.recovery.PendingNames.{pending-taken}
use Rattle.urb_world.proofs.fairness.so_many_ticks_are_enough.Goals as goal

pub returns : goal.returns
returns c count w acts reached enough often p is =
    let few = pending-taken w (reached-sound w reached) p in
    let ticks = often p is in
    omega (arith, few, ticks, enough)
