-- Some nodes tick too seldom, or one isn't ready.
use Rattle.urb_world.proofs.Common.{None, Ready, State, Storing, arith, refl, ◌≡◌}
use Rattle.urb_world.specs.internal.Examples.{pending}
use Rattle.urb_world.proofs.worked.delivery.no_rounds.Goals as goal

pub returns-clause-too_few_ticks : goal.returns-clause-too_few_ticks
returns-clause-too_few_ticks c round = let low = round.ticks 1 refl in omega (arith, low)

pub returns-clause-a_draft : goal.returns-clause-a_draft
returns-clause-a_draft c round =
    let e : ◌≡◌ {A = State} (Storing (pending 1 1) None) Ready = round.settled 1 refl in cc

pub returns-clause-too_few_ticks_of_four : goal.returns-clause-too_few_ticks_of_four
returns-clause-too_few_ticks_of_four c round = let low = round.ticks 1 refl in omega (arith, low)
