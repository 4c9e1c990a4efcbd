use Rattle.urb_world.proofs.safety.AnswerChains.{first_version-unanswered, heard-unanswered}
use Rattle.urb_world.proofs.safety.AnswerChains.{third-unanswered}
use Rattle.urb_world.proofs.laws.answers_end.Goals as goal

pub returns-clause-heard : goal.returns-clause-heard
returns-clause-heard c w p packet e = heard-unanswered w p packet e

pub returns-clause-first_version : goal.returns-clause-first_version
returns-clause-first_version c w p packet e = first_version-unanswered w p packet e

pub returns-clause-ends : goal.returns-clause-ends
returns-clause-ends c first u v w p q r = third-unanswered first u v w p q r
