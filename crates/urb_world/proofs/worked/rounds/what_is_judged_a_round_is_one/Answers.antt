-- What is judged a round is one.
use Rattle.urb_world.proofs.rounds.JudgedRounds.{answers-true, judged-busy, judged-round}
use Rattle.urb_world.proofs.worked.rounds.what_is_judged_a_round_is_one.Goals as goal

pub returns-clause-round : goal.returns-clause-round
returns-clause-round c = judged-round

pub returns-clause-busy : goal.returns-clause-busy
returns-clause-busy c = judged-busy

pub returns-clause-answers : goal.returns-clause-answers
returns-clause-answers c = answers-true
