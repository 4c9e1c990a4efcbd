use Rattle.urb_world.proofs.steps.Runs.{reached-keeps}
use Rattle.urb_world.proofs.safety.SafeWorlds.{one_message}
use Rattle.urb_world.proofs.laws.a_name_has_one_message.Goals as goal

pub returns : goal.returns
returns c w r = one_message w (reached-keeps w r).0.nodes
