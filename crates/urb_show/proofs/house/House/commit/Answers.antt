use Rattle.urb_show.proofs.Common.{Commit, HouseView, Stored, ap}
use Rattle.urb_show.proofs.GroupLists.{commits_follow, house_after}
use Rattle.urb_show.proofs.PastEvents.{has_past_after, told_after}
use Rattle.urb_show.proofs.ToldReplies.{commits_step, recorded}
use Rattle.urb_show.proofs.house.House.commit.Goals as goal

pub invariant_of-self : goal.invariant_of-self
invariant_of-self g c =
    let follows = commits_follow _ _ c.args.receipt c.commit-done.result c.commit-done.ensures in (
      house_after _ _ (Commit c.args.receipt.node c.args.receipt.pos c.args.receipt.entry)
          c.commit-done.result _ _ c.self.invariant.0
          c.events_after-self-inside.ensures.nodes follows,
      has_past_after _ _ _ (Commit c.args.receipt.node c.args.receipt.pos c.args.receipt.entry)
          c.commit-done.result _ _ _ _ _ _ c.self.invariant.1
          c.with-longer.ensures c.copy.ensures c.past_after.ensures
          c.events_after-self-inside.ensures.count follows,
      told_after _ _ _ _ _ _ c.commit-done.result c.self.invariant.2 c.with-longer.ensures
          c.copy.ensures c.past_after.ensures,
    )

pub returns-clause-past : goal.returns-clause-past
returns-clause-past g c =
    recorded _ _ _ (Commit c.args.receipt.node c.args.receipt.pos c.args.receipt.entry) Stored
    c.commit-done.result _ _ _ _ _ c.self.invariant.1.leads
    (commits_step _ _ c.args.receipt _ c.commit-done.ensures)
    c.with-longer.ensures c.copy.ensures c.past_after.ensures
    (ap (λ (h : HouseView). h.past) c.self.view_is)
