use Rattle.urb_world.proofs.safety.RunsOfKeptWorlds.{kept-for_good, kept-told}
use Rattle.urb_world.proofs.steps.Runs.{reached-keeps}
use Rattle.urb_world.proofs.laws.every_packet_is_truthful.Goals as goal

pub returns-clause-sent : goal.returns-clause-sent
returns-clause-sent c w r = (reached-keeps w r).1

pub returns-clause-for_good : goal.returns-clause-for_good
returns-clause-for_good c old new events replies r ran =
    let k = reached-keeps old r in kept-for_good old new events replies k.0 ran k.1

pub returns-clause-told : goal.returns-clause-told
returns-clause-told c old new events replies r ran =
    kept-told old new events replies (reached-keeps old r).0 ran
