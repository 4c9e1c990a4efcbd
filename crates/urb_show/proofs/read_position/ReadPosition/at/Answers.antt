use Rattle.urb_show.proofs.Common.{AreDeliveredBy, Event, List, Lists, subst, sym, ◌∙◌, ◌≡◌}
use Rattle.urb_show.proofs.read_position.ReadPosition.at.Goals as goal

pub invariant_of-result : goal.invariant_of-result
invariant_of-result g c =
    let moment : c.args.reader.now.past ≡ c.copy.result =
    sym (c.copy.ensures ∙ c.moment.ensures) in (
      c.tokens-seen.ensures.agree,
      c.recall.ensures.origin,
      subst (λ (s : Lists). AreDeliveredBy g.K.HouseName.origin c.copy.result s)
          c.tokens-seen.ensures.seen
          (subst (λ (p : List Event).
          AreDeliveredBy g.K.HouseName.origin p c.args.reader.now.seen) moment
          c.recall.ensures.delivered),
    )
