-- All nodes come back, and two rounds deliver everything.
use Rattle.urb_world.proofs.recovery.FullDelivery.{can-deliver}
use Rattle.urb_world.proofs.recovering.no_state_is_a_dead_end.Goals as goal

pub returns : goal.returns
returns c = can-deliver
