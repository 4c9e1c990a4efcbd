use Rattle.urb_group.proofs.shown.AgreeingWorlds.{sound-kept}
use Rattle.urb_world.proofs.safety.RunsOfKeptWorlds.{kept-sent, kept-told}
use Rattle.urb_group.proofs.laws.every_sound_group_tells_the_truth.Goals as goal

pub returns-clause-told : goal.returns-clause-told
returns-clause-told c group old new events replies s t ran =
    kept-told old new events replies (sound-kept group old s t) ran

pub returns-clause-sent : goal.returns-clause-sent
returns-clause-sent c group old new events replies s t h ran =
    kept-sent old new events replies (sound-kept group old s t) ran h
