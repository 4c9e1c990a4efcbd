use Rattle.urb_world.proofs.steps.Runs.{reached-keeps}
use Rattle.urb_world.proofs.safety.SafeWorlds.{safe}
use Rattle.urb_world.proofs.laws.every_run_is_safe.Goals as goal

pub returns : goal.returns
returns c w r = safe w (reached-keeps w r).0.nodes
