use Rattle.urb_show.proofs.DeliveredPlaces.{delivered_later}
use Rattle.urb_show.specs.Additions.{lists_of}
use Rattle.urb_show.proofs.read_position.ReadPosition.learn_moment.Goals as goal

pub invariant_of-self : goal.invariant_of-self
invariant_of-self g c = (
  c.self.invariant.0,
  c.self.invariant.1,
  delivered_later g.K.HouseName.origin c.self.inside.moment c.learn.new.self
      (lists_of g.K.HouseName.base c.self.inside.seen) c.self.invariant.1
      c.learn.ensures.earlier c.self.invariant.2,
)
