use Rattle.urb_group.proofs.Common.{GroupView, IsLimits, IsSound, reply_of, subst}
use Rattle.urb_group.proofs.stops.DraftPositions.{applies-in-place}
use Rattle.urb_group.proofs.stops.SecuredClusters.{applies-left, applies-secured}
use Rattle.urb_group.proofs.stops.StockedClusters.{applies-stocked}
use Rattle.urb_group.proofs.stops.StoppedCalls.{applies-leaves}
use Rattle.urb_group.proofs.cluster.Cluster.apply.Goals as goal

pub returns-clause-stocked : goal.returns-clause-stocked
returns-clause-stocked g c =
    applies-stocked g.S.Stable c.args.self.now c.apply_command.new.self c.args.command.now
    (reply_of c.apply_command.result) c.apply_command.ensures

pub returns-clause-stop : goal.returns-clause-stop
returns-clause-stop g c =
    applies-leaves g.S.Stable c.args.self.now c.apply_command.new.self c.args.command.now
    (reply_of c.apply_command.result) c.apply_command.ensures

pub returns-clause-secured : goal.returns-clause-secured
returns-clause-secured g c =
    applies-secured g.S.Stable c.args.self.now c.apply_command.new.self c.args.command.now
    (reply_of c.apply_command.result) c.apply_command.ensures

pub returns-clause-leaves : goal.returns-clause-leaves
returns-clause-leaves g c =
    λ secured. applies-left g.S.Stable c.args.self.now c.apply_command.new.self secured
    c.args.command.now (reply_of c.apply_command.result) c.apply_command.ensures

pub returns-clause-in_place : goal.returns-clause-in_place
returns-clause-in_place g c =
    λ stocked.
    applies-in-place g.S.Stable c.args.self.now c.apply_command.new.self
    (subst IsSound c.group.ensures.value c.recall_deliveries.ensures.sound)
    (subst (λ (group : GroupView). IsLimits group.size)
    c.group.ensures.value c.recall_deliveries.ensures.limits) stocked c.args.command.now
    (reply_of c.apply_command.result) c.apply_command.ensures
