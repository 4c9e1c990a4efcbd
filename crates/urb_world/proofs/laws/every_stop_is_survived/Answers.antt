use Rattle.urb_world.proofs.steps.Runs.{reached-keeps}
use Rattle.urb_world.proofs.stops.StoppedWorlds.{survives}
use Rattle.urb_world.proofs.laws.every_stop_is_survived.Goals as goal

pub returns : goal.returns
returns c w r = survives w (reached-keeps w r).0
