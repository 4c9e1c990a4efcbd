-- A part that is there has another number.
use Rattle.std.proofs.Common.{arith}
use Rattle.urb_worker.proofs.worked.listenings.groups_that_lack_a_listener.Goals as goal

pub returns-clause-at_a_single_node : goal.returns-clause-at_a_single_node
returns-clause-at_a_single_node c = λ it is all. absurd (omega (arith, is, all.0))

pub returns-clause-at_the_last_of_four : goal.returns-clause-at_the_last_of_four
returns-clause-at_the_last_of_four c = λ it is all. absurd (omega (arith, is, all.0))

pub returns-clause-at_the_last_of_seven : goal.returns-clause-at_the_last_of_seven
returns-clause-at_the_last_of_seven c = λ it is all. absurd (omega (arith, is, all.0))

pub returns-clause-ticks_at_a_single_node : goal.returns-clause-ticks_at_a_single_node
returns-clause-ticks_at_a_single_node c = λ it is all. absurd (omega (arith, is, all.1))

pub returns-clause-ticks_at_the_last_of_four : goal.returns-clause-ticks_at_the_last_of_four
returns-clause-ticks_at_the_last_of_four c = λ it is all. absurd (omega (arith, is, all.1))

pub returns-clause-ticks_at_a_slower_pace : goal.returns-clause-ticks_at_a_slower_pace
returns-clause-ticks_at_a_slower_pace c = λ it is all. absurd (omega (arith, is, all.2))

pub returns-clause-ticks_at_a_faster_pace : goal.returns-clause-ticks_at_a_faster_pace
returns-clause-ticks_at_a_faster_pace c = λ it is all. absurd (omega (arith, is, all.2))
