use Rattle.urb_group.proofs.shown.AgreeingWorlds.{sound-kept}
use Rattle.urb_world.proofs.safety.RunsOfKeptWorlds.{kept-agree, kept-grow}
use Rattle.urb_group.proofs.laws.every_sound_groups_logs_agree.Goals as goal

pub returns-clause-agree : goal.returns-clause-agree
returns-clause-agree c group old new events replies s t ran =
    kept-agree old new events replies (sound-kept group old s t) ran

pub returns-clause-grow : goal.returns-clause-grow
returns-clause-grow c group old new events replies s t ran =
    kept-grow old new events replies (sound-kept group old s t) ran
