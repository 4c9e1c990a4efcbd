use Rattle.urb_world.proofs.safety.AcceptedSubmits.{accepted-stored, committed-stored}
use Rattle.urb_world.proofs.steps.Runs.{reached-keeps}
use Rattle.urb_world.proofs.laws.an_accepted_message_is_stored.Goals as goal

pub returns-clause-again : goal.returns-clause-again
returns-clause-again c w p m x r e = accepted-stored w (reached-keeps w r).0.nodes p m x e

pub returns-clause-stored : goal.returns-clause-stored
returns-clause-stored c w p position entry done e a = committed-stored w p position entry done e a
