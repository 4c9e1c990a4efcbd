use Rattle.urb_turn.proofs.EventCounts.{count_adds}
use Rattle.urb_turn.proofs.hub.Hub.close.Goals as goal
use Rattle.urb_turn.specs.Counting.{events_in}

pub returns-clause-sum : goal.returns-clause-sum
returns-clause-sum g c low =
    rw c.close.ensures.counted (count_adds (events_in c.args.tallies.items) g.L.HubName.start low)
