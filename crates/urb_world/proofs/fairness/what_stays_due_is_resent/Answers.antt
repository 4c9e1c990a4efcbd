-- A pair that stays due gets its turn.
use Rattle.std.proofs.Common.{arith}
use Rattle.urb_world.proofs.ticks.DueTurns.{turn-below, turn-comes-over}
use Rattle.urb_world.proofs.ticks.Membership.{in-pairs}
use Rattle.urb_world.proofs.fairness.what_stays_due_is_resent.Goals as goal

pub returns-clause-turn : goal.returns-clause-turn
returns-clause-turn c all cursor x m dues rises there h l =
    turn-comes-over all rises x m (in-pairs all x m there) cursor dues h l

pub returns-clause-below : goal.returns-clause-below
returns-clause-below c all cursor x m rises there =
    turn-below all rises x m (in-pairs all x m there) cursor

pub returns-clause-all : goal.returns-clause-all
returns-clause-all c all cursor x m dues rises there h l =
    let is = in-pairs all x m there in
    let below = turn-below all rises x m is cursor in
    turn-comes-over all rises x m is cursor dues h (omega (arith, below, l))
