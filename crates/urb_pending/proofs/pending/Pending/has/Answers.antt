use Rattle.urb_pending.proofs.Common.{None, Some, same_message, ◌∙◌, ◌≡◌}
use Rattle.urb_pending.proofs.PairSearches.{found_is, told_same}
use Rattle.urb_pending.proofs.pending.Pending.has.Goals as goal

pub returns-in-Some : goal.returns-in-Some
returns-in-Some g c =
    let ps = c.self.inside.windows.entries in
    let there = c.in-Some.there.now in
    let same : c.is_same.result ≡ same_message there c.args.message.now =
    told_same c.is_same.result there c.args.message.now c.is_same.ensures in
    rw (← c.self.view_is) (same ∙ found_is ps c.args.name.now c.args.message.now
    (Some there) c.self.invariant.set.rising c.in-Some.ensures)

pub returns-in-None : goal.returns-in-None
returns-in-None g c =
    let ps = c.self.inside.windows.entries in
    rw (← c.self.view_is) (found_is ps c.args.name.now c.args.message.now None
    c.self.invariant.set.rising c.in-None.ensures)
