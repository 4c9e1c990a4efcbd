use Rattle.urb_group.proofs.Common.{ap, in_range, sym, ◌∙◌}
use Rattle.urb_group.proofs.tails.TailAnswers.{certificate-early, certificate-new, not-in-range}
use Rattle.urb_group.proofs.tails.TailAnswers.{pair-new}
use Rattle.urb_names.proofs.TruthValues.{mapped_some}
use Rattle.urb_group.proofs.tail_rules.is_new.Goals as goal

pub returns-then-not-is_in_range : goal.returns-then-not-is_in_range
returns-then-not-is_in_range g c =
    not-in-range c.args.config c.args.current.now c.args.before.now c.args.entry.now
    (sym c.if-not-is_in_range.true
    ∙ (c.is_in_range.ensures ∙ ap (in_range c.args.config) c.name-name.ensures))

pub returns-in-Pend : goal.returns-in-Pend
returns-in-Pend g c =
    pair-new c.args.config c.args.current.now c.args.before.now c.args.entry.now _ _ c.in-Pend.is
    (sym c.if-not-is_in_range.false
    ∙ (c.is_in_range.ensures ∙ ap (in_range c.args.config) c.name-name.ensures))
    (rw c.name-name.ensures at c.find_message-found.ensures)
    (mapped_some (λ m. m.now) c.find_message-found.result ∙ c.is_none.ensures)

pub returns-then-not-is_some : goal.returns-then-not-is_some
returns-then-not-is_some g c =
    certificate-early c.args.config c.args.current.now c.args.before.now c.args.entry.now _ _
    c.in-Cert.is
    (sym c.if-not-is_in_range.false
    ∙ (c.is_in_range.ensures ∙ ap (in_range c.args.config) c.name-name.ensures))
    (rw c.name-name.ensures at c.find_message-found.ensures)
    (sym c.if-not-is_some.true
    ∙ (c.is_some.ensures ∙ sym (mapped_some (λ m. m.now) c.find_message-found.result)))

pub returns-else-not-is_some : goal.returns-else-not-is_some
returns-else-not-is_some g c =
    certificate-new c.args.config c.args.current.now c.args.before.now c.args.entry.now _ _ _
    c.in-Cert.is
    (sym c.if-not-is_in_range.false
    ∙ (c.is_in_range.ensures ∙ ap (in_range c.args.config) c.name-name.ensures))
    (rw c.name-name.ensures at c.find_message-found.ensures)
    (sym c.if-not-is_some.false
    ∙ (c.is_some.ensures ∙ sym (mapped_some (λ m. m.now) c.find_message-found.result)))
    (rw c.name-name.ensures at c.is_certified.ensures)
