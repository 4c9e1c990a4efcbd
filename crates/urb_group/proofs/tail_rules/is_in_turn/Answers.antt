use Rattle.urb_group.proofs.Common.{Label, ap, not, not-false, not-true, sym, ◌==◌, ◌∙◌}
use Rattle.urb_group.proofs.tails.TailAnswers.{turn-of-other, turn-of-own}
use Rattle.urb_group.proofs.tail_rules.is_in_turn.Goals as goal

pub returns-then-ne : goal.returns-then-ne
returns-then-ne g c =
    turn-of-other c.args.current.now c.args.node c.args.before.now c.args.entry.now
    c.in-Pend.name c.in-Pend.message c.in-Pend.is
    (not-true (c.in-Pend.name.sender == c.args.node)
    (sym (c.if-ne.ensures ∙ ap (λ (x : Label). not (x.sender == c.args.node)) c.name.view_is)))

pub returns-else-ne : goal.returns-else-ne
returns-else-ne g c =
    turn-of-own c.args.current.now c.args.node c.args.before.now c.args.entry.now
    c.in-Pend.name c.in-Pend.message c.in-Pend.is _
    (not-false (c.in-Pend.name.sender == c.args.node)
    (sym (c.if-ne.ensures ∙ ap (λ (x : Label). not (x.sender == c.args.node)) c.name.view_is)))
    c.is_next.ensures
