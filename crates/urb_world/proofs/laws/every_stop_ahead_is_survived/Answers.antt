use Rattle.urb_world.proofs.steps.Runs.{reached-keeps}
use Rattle.urb_world.proofs.stops.AheadWorlds.{survives-ahead}
use Rattle.urb_world.proofs.laws.every_stop_ahead_is_survived.Goals as goal

pub returns : goal.returns
returns c w r = survives-ahead w (reached-keeps w r).0
