use Rattle.urb_world.proofs.Common.{[], arith, certified, false≢true, message, name, refl}
use Rattle.urb_world.proofs.recovery.ReturningNodes.{whole-joined}
use Rattle.urb_world.proofs.worked.starts.lone_nodes.Goals as goal

pub returns-clause-alone : goal.returns-clause-alone
returns-clause-alone c one = whole-joined [] (certified 1 1) tt (λ x m h. absurd (false≢true h))

pub returns-clause-not_alone : goal.returns-clause-not_alone
returns-clause-not_alone c free = false≢true (free refl (name 1 1) (message 7 1 "") refl)

pub returns-clause-of_two : goal.returns-clause-of_two
returns-clause-of_two c one = absurd (omega (arith, one))
