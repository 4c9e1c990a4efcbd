use Rattle.urb_world.proofs.safety.RunsOfKeptWorlds.{kept-agree}
use Rattle.urb_world.proofs.steps.Runs.{reached-keeps}
use Rattle.urb_world.proofs.laws.logs_agree.Goals as goal

pub returns : goal.returns
returns c old new events replies r ran =
    kept-agree old new events replies (reached-keeps old r).0 ran
