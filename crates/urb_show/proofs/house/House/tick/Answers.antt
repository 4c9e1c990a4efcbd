use Rattle.urb_show.proofs.Common.{HouseView, Sent, Tick, ap}
use Rattle.urb_show.proofs.GroupLists.{house_after, ticks_follow}
use Rattle.urb_show.proofs.PastEvents.{has_past_after, told_after}
use Rattle.urb_show.proofs.ToldReplies.{recorded, ticks_step}
use Rattle.urb_show.proofs.house.House.tick.Goals as goal

pub invariant_of-self : goal.invariant_of-self
invariant_of-self g c =
    let follows = ticks_follow _ _ _ c.tick-sent.result c.tick-sent.ensures in (
      house_after _ _ (Tick c.args.node)
          c.tick-sent.result _ _ c.self.invariant.0
          c.events_after-self-inside.ensures.nodes follows,
      has_past_after _ _ _ (Tick c.args.node)
          c.tick-sent.result _ _ _ _ _ _ c.self.invariant.1
          c.with-longer.ensures c.copy.ensures c.past_after.ensures
          c.events_after-self-inside.ensures.count follows,
      told_after _ _ _ _ _ _ c.tick-sent.result c.self.invariant.2 c.with-longer.ensures
          c.copy.ensures c.past_after.ensures,
    )

pub returns-clause-past : goal.returns-clause-past
returns-clause-past g c =
    recorded _ _ _ (Tick c.args.node) Sent
    c.tick-sent.result _ _ _ _ _ c.self.invariant.1.leads
    (ticks_step _ _ (Tick c.args.node) _ c.tick-sent.ensures)
    c.with-longer.ensures c.copy.ensures c.past_after.ensures
    (ap (λ (h : HouseView). h.past) c.self.view_is)
