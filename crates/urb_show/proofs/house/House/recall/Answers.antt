use Rattle.std.proofs.Common.{length, sym, ◌∙◌, ◌≡◌}
use Rattle.urb_show.proofs.ListBeginnings.{begins_all, begins_later, begins_trans}
use Rattle.urb_show.proofs.GroupLists.{lists_agree}
use Rattle.urb_show.proofs.PastEvents.{reached_after}
use Rattle.urb_show.proofs.PreparedEntries.{lists_length}
use Rattle.urb_show.proofs.house.House.recall.Goals as goal

pub returns-clause-counted : goal.returns-clause-counted
returns-clause-counted g c =
    let nodes : length c.self.inside.group.nodes ≡ length g.K.HouseName.base =
    sym c.self.invariant.0.lists ∙ lists_length g.K.HouseName.base c.self.inside.publisher.all in
    rw (← c.self.view_is) (nodes, sym c.self.invariant.0.counted ∙ nodes)

pub returns-clause-opened : goal.returns-clause-opened
returns-clause-opened g c =
    rw (← c.self.view_is) (begins_all g.K.HouseName.base c.self.inside.publisher.shown)

pub returns-clause-published : goal.returns-clause-published
returns-clause-published g c =
    rw (← c.self.view_is) (begins_later g.K.HouseName.base _ _ c.len.ensures.begins)

pub returns-clause-begins : goal.returns-clause-begins
returns-clause-begins g c =
    rw (← c.self.view_is) (begins_trans _ _ _
    (begins_later g.K.HouseName.base _ _ c.len.ensures.begins) c.self.invariant.0.begins)

pub returns-clause-agree : goal.returns-clause-agree
returns-clause-agree g c =
    rw (← c.self.view_is) (lists_agree c.self.inside.group c.recall_deliveries.ensures.agree)

pub returns-clause-reached : goal.returns-clause-reached
returns-clause-reached g c = λ w shows reached. reached_after w c.args.self.now.past reached
