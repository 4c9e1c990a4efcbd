-- What a stop leaves keeps the rules under limits that the group may start with.
use Rattle.urb_world.proofs.steps.Runs.{reached-keeps}
use Rattle.urb_world.proofs.stops.LimitChanges.{starts-on}
use Rattle.urb_world.proofs.starts.a_stop_is_survived_under_other_limits.Goals as goal

pub returns : goal.returns
returns c w size r may = starts-on w (reached-keeps w r).0 size may
