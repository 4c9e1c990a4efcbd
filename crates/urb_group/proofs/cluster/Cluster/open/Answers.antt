use Rattle.urb_group.proofs.stops.OpenedClusters.{opens-goes_on, opens-leaves, opens-stocked}
use Rattle.urb_group.proofs.stops.SecuredOpenings.{opens-secured}
use Rattle.urb_group.proofs.cluster.Cluster.open.Goals as goal

pub returns-clause-goes_on : goal.returns-clause-goes_on
returns-clause-goes_on g c =
    λ old w stopped. opens-goes_on g.S.Stable old w c.args.config c.args.stores.items stopped
    c.requires.counted c.open_stores.result c.open_stores.ensures

pub returns-clause-stocked : goal.returns-clause-stocked
returns-clause-stocked g c =
    opens-stocked g.S.Stable c.args.config c.args.stores.items c.open_stores.result
    c.open_stores.ensures

pub returns-clause-stop : goal.returns-clause-stop
returns-clause-stop g c =
    opens-leaves g.S.Stable c.args.config c.args.stores.items c.open_stores.result
    c.open_stores.ensures

pub returns-clause-secured : goal.returns-clause-secured
returns-clause-secured g c =
    opens-secured g.S.Stable c.args.config c.args.stores.items c.open_stores.result
    c.open_stores.ensures
