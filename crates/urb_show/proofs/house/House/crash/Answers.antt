use Rattle.urb_show.proofs.Common.{Crash, HouseView, WentDown, ap}
use Rattle.urb_show.proofs.GroupLists.{goes_down_follow, house_after}
use Rattle.urb_show.proofs.PastEvents.{has_past_after, told_after}
use Rattle.urb_show.proofs.ToldReplies.{goes_down_step, recorded}
use Rattle.urb_show.proofs.house.House.crash.Goals as goal

pub invariant_of-self : goal.invariant_of-self
invariant_of-self g c =
    let follows = goes_down_follow _ _ c.args.node _ c.crash-done.result c.crash-done.ensures in (
      house_after _ _ (Crash c.args.node)
          c.crash-done.result _ _ c.self.invariant.0
          c.events_after-self-inside.ensures.nodes follows,
      has_past_after _ _ _ (Crash c.args.node)
          c.crash-done.result _ _ _ _ _ _ c.self.invariant.1
          c.with-longer.ensures c.copy.ensures c.past_after.ensures
          c.events_after-self-inside.ensures.count follows,
      told_after _ _ _ _ _ _ c.crash-done.result c.self.invariant.2 c.with-longer.ensures
          c.copy.ensures c.past_after.ensures,
    )

pub returns-clause-past : goal.returns-clause-past
returns-clause-past g c =
    recorded _ _ _ (Crash c.args.node) (λ done. WentDown c.args.node)
    c.crash-done.result _ _ _ _ _ c.self.invariant.1.leads
    (goes_down_step _ _ (Crash c.args.node) c.args.node _ c.crash-done.ensures)
    c.with-longer.ensures c.copy.ensures c.past_after.ensures
    (ap (λ (h : HouseView). h.past) c.self.view_is)
