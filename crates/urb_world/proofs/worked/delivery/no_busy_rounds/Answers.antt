-- Some nodes tick too seldom.
use Rattle.std.proofs.Common.{arith, refl}
use Rattle.urb_world.proofs.worked.delivery.no_busy_rounds.Goals as goal

pub returns-clause-too_few_ticks : goal.returns-clause-too_few_ticks
returns-clause-too_few_ticks c round = let low = round.ticks 1 refl in omega (arith, low)

pub returns-clause-too_few_for_a_draft : goal.returns-clause-too_few_for_a_draft
returns-clause-too_few_for_a_draft c round = let low = round.ticks 1 refl in omega (arith, low)

pub returns-clause-too_few_ticks_of_four : goal.returns-clause-too_few_ticks_of_four
returns-clause-too_few_ticks_of_four c round = let low = round.ticks 1 refl in omega (arith, low)
