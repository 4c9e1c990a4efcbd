use Rattle.urb_group.proofs.Common.{Label, ap, arith, subst, sym, ℕ, ◌<◌, ◌∙◌}
use Rattle.urb_group.proofs.tails.TailHolders.{sender-holds, sender-missing}
use Rattle.urb_group.proofs.tail_rules.sender_holds.Goals as goal

pub bounds-nodes-at : goal.bounds-nodes-at
bounds-nodes-at g c = omega (arith, c.in-Some.ensures.0, c.requires.placed.count)

pub returns-in-Some : goal.returns-in-Some
returns-in-Some g c =
    sender-holds c.requires c.args.name c.args.message.now c.in-Some.at c.index-nodes-at.result
    c.has.result c.index-nodes-at.is c.in-Some.ensures.0
    (ap (λ (x : Label). x.sender) (sym c.name.view_is) ∙ c.in-Some.ensures.1) c.has.ensures

pub returns-in-None : goal.returns-in-None
returns-in-None g c =
    sender-missing c.requires c.args.name c.args.message.now
    (subst (λ (k : ℕ). c.args.config.n < k) (ap (λ (x : Label). x.sender) c.name.view_is)
    c.in-None.ensures)
