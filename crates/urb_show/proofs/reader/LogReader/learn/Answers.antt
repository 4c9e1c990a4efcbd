use Rattle.urb_show.proofs.Common.{ap, inl, inr, lists_of, refl, ⊎_elim}
use Rattle.urb_show.proofs.DeliveredPlaces.{delivered_later}
use Rattle.urb_show.proofs.ListBeginnings.{begins_later}
use Rattle.urb_show.proofs.reader.LogReader.learn.Goals as goal

pub returns : goal.returns
returns g c =
    rw (← c.self.view_is, ← c.told.view_is) (
    record {
      one =
          ⊎_elim (λ same. inl (ap (lists_of _) same))
          (λ same. inr (ap (lists_of _) same)) c.longer_of.ensures.one;
      earlier = begins_later _ _ _ c.longer_of.ensures.this;
      told = begins_later _ _ _ c.longer_of.ensures.that;
      seen = refl;
      past = record {
        one = c.learn.ensures.one;
        earlier = c.learn.ensures.earlier;
        told = c.learn.ensures.told;
      };
    })

pub invariant_of-self : goal.invariant_of-self
invariant_of-self g c = (
  c.self.invariant.0,
  c.self.invariant.1,
  c.self.invariant.2,
  delivered_later g.K.HouseName.origin c.self.inside.moment c.learn.new.self
      (lists_of g.K.HouseName.base c.self.inside.seen) c.self.invariant.2
      c.learn.ensures.earlier c.self.invariant.3,
)
