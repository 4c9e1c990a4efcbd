use Rattle.urb_group.proofs.Common.{accepted-stored, one_message, safe, survives}
use Rattle.urb_group.proofs.shown.AgreeingWorlds.{sound-kept}
use Rattle.urb_group.proofs.laws.every_sound_group_is_safe.Goals as goal

pub returns-clause-safe : goal.returns-clause-safe
returns-clause-safe c group w s t = safe w (sound-kept group w s t).nodes

pub returns-clause-one_message : goal.returns-clause-one_message
returns-clause-one_message c group w s t = one_message w (sound-kept group w s t).nodes

pub returns-clause-stop : goal.returns-clause-stop
returns-clause-stop c group w s t = survives w (sound-kept group w s t)

pub returns-clause-accepted : goal.returns-clause-accepted
returns-clause-accepted c group w p m x s t e =
    accepted-stored w (sound-kept group w s t).nodes p m x e
