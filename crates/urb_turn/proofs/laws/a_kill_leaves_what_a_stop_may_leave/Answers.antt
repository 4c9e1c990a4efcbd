use Rattle.std.proofs.Common.{suc}
use Rattle.urb_turn.proofs.OtherNodes.{rested-leaves}
use Rattle.urb_turn.proofs.laws.a_kill_leaves_what_a_stop_may_leave.Goals as goal

pub returns-clause-idle : goal.returns-clause-idle
returns-clause-idle g c start last past n store h rested =
    record { earlier = last; rests = rested; leaves = h.lasting.left }

pub returns-clause-working : goal.returns-clause-working
returns-clause-working g c opened start past n job before after came at shows h rested =
    record {
      earlier = at.turn.given_back.past;
      rests = rested;
      leaves = at.leaves start shows h;
    }

pub returns-clause-left : goal.returns-clause-left
returns-clause-left g c start past stores cut i store got =
    let one = cut i store got in
    rested-leaves g.S.Stable start (suc i) one.earlier past store one.rests one.leaves
