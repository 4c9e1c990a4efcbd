use Rattle.urb_group.proofs.Common.{Label, ap, sym, ◌==◌, ◌∙◌}
use Rattle.urb_group.proofs.tails.TailAnswers.{other-at-sender, own-at-sender}
use Rattle.urb_group.proofs.tail_rules.is_at_its_sender.Goals as goal

pub returns-then-eq : goal.returns-then-eq
returns-then-eq g c =
    own-at-sender c.args.config c.args.nodes.now c.args.node c.args.entry.now c.in-Pend.name
    c.in-Pend.message c.in-Pend.is
    (sym (c.if-eq.ensures ∙ ap (λ (x : Label). x.sender == c.args.node) c.name.view_is))

pub returns-else-eq : goal.returns-else-eq
returns-else-eq g c =
    other-at-sender c.args.config c.args.nodes.now c.args.node c.args.entry.now c.in-Pend.name
    c.in-Pend.message c.in-Pend.is _
    (sym (c.if-eq.ensures ∙ ap (λ (x : Label). x.sender == c.args.node) c.name.view_is))
    c.sender_holds.ensures
