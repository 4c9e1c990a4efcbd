use Rattle.urb_show.proofs.Common.{HouseView, Restart, Up, ap}
use Rattle.urb_show.proofs.GroupLists.{comes_up_follow, house_after}
use Rattle.urb_show.proofs.PastEvents.{has_past_after, told_after}
use Rattle.urb_show.proofs.ToldReplies.{comes_up_step, recorded}
use Rattle.urb_show.proofs.house.House.restart.Goals as goal

pub invariant_of-self : goal.invariant_of-self
invariant_of-self g c =
    let follows =
    comes_up_follow _ _ c.args.node _ c.restart-done.result c.restart-done.ensures in (
      house_after _ _ (Restart c.args.node c.args.image.items)
          c.restart-done.result _ _ c.self.invariant.0
          c.events_after-self-inside.ensures.nodes follows,
      has_past_after _ _ _ (Restart c.args.node c.args.image.items)
          c.restart-done.result _ _ _ _ _ _ c.self.invariant.1
          c.with-longer.ensures c.copy.ensures c.past_after.ensures
          c.events_after-self-inside.ensures.count follows,
      told_after _ _ _ _ _ _ c.restart-done.result c.self.invariant.2 c.with-longer.ensures
          c.copy.ensures c.past_after.ensures,
    )

pub returns-clause-past : goal.returns-clause-past
returns-clause-past g c =
    recorded _ _ _ (Restart c.args.node c.args.image.items) (λ done. Up c.args.node)
    c.restart-done.result _ _ _ _ _ c.self.invariant.1.leads
    (comes_up_step _ _ (Restart c.args.node c.args.image.items)
    c.args.node _ c.restart-done.ensures)
    c.with-longer.ensures c.copy.ensures c.past_after.ensures
    (ap (λ (h : HouseView). h.past) c.self.view_is)
