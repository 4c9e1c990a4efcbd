use Rattle.urb_show.proofs.Common.{Arrive, HouseView, ap, reply_to}
use Rattle.urb_names.specs.PacketGrammar.{packet_of}
use Rattle.urb_show.proofs.GroupLists.{house_after, takes_follow}
use Rattle.urb_show.proofs.PastEvents.{has_past_after, told_after}
use Rattle.urb_show.proofs.ToldReplies.{recorded, takes_step}
use Rattle.urb_show.proofs.house.House.arrive.Goals as goal

pub invariant_of-self : goal.invariant_of-self
invariant_of-self g c =
    let follows = takes_follow _ _ c.args.node _ c.arrive-taken.result c.arrive-taken.ensures in (
      house_after _ _ (Arrive c.args.node (packet_of c.args.bytes.now))
          c.arrive-taken.result _ _ c.self.invariant.0
          c.events_after-self-inside.ensures.nodes follows,
      has_past_after _ _ _ (Arrive c.args.node (packet_of c.args.bytes.now))
          c.arrive-taken.result _ _ _ _ _ _ c.self.invariant.1
          c.with-longer.ensures c.copy.ensures c.past_after.ensures
          c.events_after-self-inside.ensures.count follows,
      told_after _ _ _ _ _ _ c.arrive-taken.result c.self.invariant.2 c.with-longer.ensures
          c.copy.ensures c.past_after.ensures,
    )

pub returns-clause-past : goal.returns-clause-past
returns-clause-past g c =
    recorded _ _ _ (Arrive c.args.node (packet_of c.args.bytes.now)) reply_to
    c.arrive-taken.result _ _ _ _ _ c.self.invariant.1.leads
    (takes_step _ _ (Arrive c.args.node (packet_of c.args.bytes.now))
    c.args.node _ c.arrive-taken.ensures)
    c.with-longer.ensures c.copy.ensures c.past_after.ensures
    (ap (λ (h : HouseView). h.past) c.self.view_is)
