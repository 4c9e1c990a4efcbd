use Rattle.std.proofs.Common.{refl}
use Rattle.urb_show.proofs.worked.service.reads.Goals as goal

pub returns-clause-second : goal.returns-clause-second
returns-clause-second c = (refl, refl, refl)

pub returns-clause-status : goal.returns-clause-status
returns-clause-status c = (refl, refl, refl, refl)
