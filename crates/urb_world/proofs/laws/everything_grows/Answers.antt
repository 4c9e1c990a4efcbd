use Rattle.urb_world.proofs.steps.Growth.{run-goes_on}
use Rattle.urb_world.proofs.safety.RunsOfKeptWorlds.{kept-grow}
use Rattle.urb_world.proofs.steps.Runs.{reached-keeps}
use Rattle.urb_world.proofs.laws.everything_grows.Goals as goal

pub returns-clause-stored : goal.returns-clause-stored
returns-clause-stored c = run-goes_on

pub returns-clause-entries : goal.returns-clause-entries
returns-clause-entries c old new events replies r ran =
    kept-grow old new events replies (reached-keeps old r).0 ran
