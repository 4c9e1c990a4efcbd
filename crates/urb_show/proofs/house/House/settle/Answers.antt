use Rattle.urb_show.proofs.SettledNodes.{settles}
use Rattle.urb_show.proofs.house.House.settle.Goals as goal
use Rattle.std.proofs.Common.{sym, ◌-◌, ◌∙◌}

pub returns : goal.returns
returns g c =
    let whole = rw c.loop-node-test.false at c.has_unprepared.ensures.lacks in
    settles (c.args.node - 1) c.args.self.now c.loop-node.self c.publish.new.self _ c.publish.result
    c.loop-node.invariant.0 c.has_unprepared.ensures.begins whole c.publish.ensures
    (sym c.moment.view_is ∙ c.loop-node.invariant.2)
