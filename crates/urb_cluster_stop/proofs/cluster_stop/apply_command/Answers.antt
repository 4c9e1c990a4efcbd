use Rattle.std.proofs.Common.{List, subst, sym}
use Rattle.urb_group.specs.StoreContents.{WouldLeave}
use Rattle.urb_cluster_stop.proofs.AppliedCommands.{applies-size}
use Rattle.urb_cluster_stop.proofs.cluster_stop.apply_command.Goals as goal

pub returns-clause-sized : goal.returns-clause-sized
returns-clause-sized g c =
    applies-size g.S.Stable c.args.cluster.now c.apply.new.self c.args.command.now _
    c.recall_rest.ensures.sound c.apply.ensures.applied

pub returns-clause-leaves : goal.returns-clause-leaves
returns-clause-leaves g c stores same secured =
    subst (λ (xs : List _). WouldLeave g.S.Stable secured.stocked.world xs) (sym same)
    (c.apply.ensures.leaves secured)

pub returns-clause-done : goal.returns-clause-done
returns-clause-done g c = c.apply.ensures.applied

pub returns-clause-secured : goal.returns-clause-secured
returns-clause-secured g c = c.apply.ensures.secured

pub returns-clause-counted : goal.returns-clause-counted
returns-clause-counted g c = c.recall_rest.ensures.counted

pub returns-clause-sound : goal.returns-clause-sound
returns-clause-sound g c = c.recall_rest.ensures.sound
