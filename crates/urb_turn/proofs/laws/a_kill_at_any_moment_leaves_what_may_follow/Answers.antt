use Rattle.urb_turn.proofs.KilledBatches.{killed-tails, killed-would}
use Rattle.urb_turn.proofs.laws.a_kill_at_any_moment_leaves_what_may_follow.Goals as goal

pub returns-clause-leaves : goal.returns-clause-leaves
returns-clause-leaves g c opened start past stores sound shows killed =
    killed-would g.S.Stable opened start past sound shows stores killed

pub returns-clause-ahead : goal.returns-clause-ahead
returns-clause-ahead g c opened start past stores sound shows killed =
    killed-tails g.S.Stable opened start past sound shows stores killed
