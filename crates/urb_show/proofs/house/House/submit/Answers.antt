use Rattle.urb_show.proofs.Common.{HouseView, Submit, ap, reply_to}
use Rattle.urb_show.proofs.GroupLists.{house_after, takes_follow}
use Rattle.urb_show.proofs.PastEvents.{has_past_after, told_after}
use Rattle.urb_show.proofs.ToldReplies.{recorded, takes_step}
use Rattle.urb_show.proofs.house.House.submit.Goals as goal

pub invariant_of-self : goal.invariant_of-self
invariant_of-self g c =
    let follows = takes_follow _ _ c.args.node _ c.submit-taken.result c.submit-taken.ensures in (
      house_after _ _ (Submit c.args.node
          (record { client = c.args.client; number = c.args.number; payload = c.args.payload.now }))
          c.submit-taken.result _ _ c.self.invariant.0
          c.events_after-self-inside.ensures.nodes follows,
      has_past_after _ _ _ (Submit c.args.node
          (record { client = c.args.client; number = c.args.number; payload = c.args.payload.now }))
          c.submit-taken.result _ _ _ _ _ _ c.self.invariant.1
          c.with-longer.ensures c.copy.ensures c.past_after.ensures
          c.events_after-self-inside.ensures.count follows,
      told_after _ _ _ _ _ _ c.submit-taken.result c.self.invariant.2 c.with-longer.ensures
          c.copy.ensures c.past_after.ensures,
    )

pub returns-clause-past : goal.returns-clause-past
returns-clause-past g c =
    recorded _ _ _ (Submit c.args.node
    (record { client = c.args.client; number = c.args.number; payload = c.args.payload.now }))
    reply_to
    c.submit-taken.result _ _ _ _ _ c.self.invariant.1.leads
    (takes_step _ _ (Submit c.args.node
    (record { client = c.args.client; number = c.args.number; payload = c.args.payload.now }))
    c.args.node _ c.submit-taken.ensures)
    c.with-longer.ensures c.copy.ensures c.past_after.ensures
    (ap (λ (h : HouseView). h.past) c.self.view_is)
