-- Some node has a message, and doesn't tick.
use Rattle.urb_world.proofs.Common.{arith, refl, run}
use Rattle.urb_world.proofs.worked.recovery_words.rounds_of_no_events.Goals as goal

pub returns-clause-in_four : goal.returns-clause-in_four
unfolding run
returns-clause-in_four c round = let low = round.ticks 1 refl in omega (arith, low)

pub returns-clause-busy_in_four : goal.returns-clause-busy_in_four
unfolding run
returns-clause-busy_in_four c round = let low = round.ticks 1 refl in omega (arith, low)

pub returns-clause-in_seven : goal.returns-clause-in_seven
unfolding run
returns-clause-in_seven c round = let low = round.ticks 1 refl in omega (arith, low)

pub returns-clause-busy_in_seven : goal.returns-clause-busy_in_seven
unfolding run
returns-clause-busy_in_seven c round = let low = round.ticks 1 refl in omega (arith, low)
