use Rattle.urb_group.proofs.shown.AgreeingWorlds.{sound-step}
use Rattle.urb_group.proofs.shown.ShownWorlds.{sound-new, sound-opened}
use Rattle.urb_group.proofs.laws.groups_stay_sound.Goals as goal

pub returns-clause-new : goal.returns-clause-new
returns-clause-new c = sound-new

pub returns-clause-opened : goal.returns-clause-opened
returns-clause-opened c = sound-opened

pub returns-clause-step : goal.returns-clause-step
returns-clause-step c = sound-step
