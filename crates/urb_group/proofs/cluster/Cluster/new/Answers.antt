use Rattle.urb_group.proofs.stops.SecuredOpenings.{starts-secured}
use Rattle.urb_group.proofs.stops.StockedPlays.{starts-stocked}
use Rattle.urb_group.proofs.cluster.Cluster.new.Goals as goal

pub returns-clause-stocked : goal.returns-clause-stocked
returns-clause-stocked g c =
    starts-stocked g.S.Stable c.args.config c.args.stores.items c.args.stores c.start.result
    c.requires.blank c.start.ensures

pub returns-clause-secured : goal.returns-clause-secured
returns-clause-secured g c =
    λ genuine. starts-secured g.S.Stable c.args.config c.args.stores.items c.args.stores
    c.start.result c.requires.blank genuine c.start.ensures
