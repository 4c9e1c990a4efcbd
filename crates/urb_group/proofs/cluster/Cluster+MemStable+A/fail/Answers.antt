use Rattle.urb_group.proofs.Common.{GroupView, IsLimits, IsSound, reply_of, subst}
use Rattle.urb_group.proofs.stops.DraftPositions.{fails-in-place}
use Rattle.urb_group.proofs.stops.StockedFailures.{fails-stocked}
use Rattle.urb_group.proofs.stops.StoppedCalls.{fails-leaves}
use Rattle.urb_group.proofs.cluster.Cluster+MemStable+A.fail.Goals as goal

pub returns-clause-stocked : goal.returns-clause-stocked
returns-clause-stocked g c =
    fails-stocked c.args.self.now c.fail_store.new.self c.args.node c.args.failure
    (reply_of c.fail_store.result) c.fail_store.ensures

pub returns-clause-stop : goal.returns-clause-stop
returns-clause-stop g c =
    fails-leaves c.args.self.now c.fail_store.new.self c.args.node c.args.failure
    (reply_of c.fail_store.result) c.fail_store.ensures

pub returns-clause-in_place : goal.returns-clause-in_place
returns-clause-in_place g c =
    λ stocked.
    fails-in-place {A = g.row.A.Denot} c.args.self.now c.fail_store.new.self
    (subst IsSound c.group.ensures.value c.recall_deliveries.ensures.sound)
    (subst (λ (group : GroupView). IsLimits group.size)
    c.group.ensures.value c.recall_deliveries.ensures.limits) stocked c.args.node c.args.failure
    (reply_of c.fail_store.result) c.fail_store.ensures
