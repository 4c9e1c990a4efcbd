use Rattle.urb_stubborn.proofs.Common.{Label, MAX_SENDERS, Resending, ack_lt, ap, arith, false}
use Rattle.urb_stubborn.proofs.Common.{false≢true, has_name, placed, refl, rules, sym, true, ◌+◌}
use Rattle.urb_stubborn.proofs.Common.{◌-◌, ◌<◌, ◌∙◌, ◌≡◌}
use Rattle.urb_window.specs.Marks.{MarkSet, with_mark}
use Rattle.urb_stubborn.proofs.SettledCounts.{kept_heard}
use Rattle.urb_stubborn.proofs.resend.Resend.hear.Goals as goal

pub invariant_of-self : goal.invariant_of-self
invariant_of-self g c =
    let x = c.args.name in
    let place : c.number.result - 1 + 1 ≡ c.name.inside.sender =
    omega (arith, c.number.ensures.number, c.number.ensures.range) in
    let low : c.number.result - 1 < MAX_SENDERS =
    omega (arith, c.number.ensures.number, c.number.ensures.range) in
    let roomy : has_name c.self.inside.heard.roomy x ≡ true =
    ap (λ (r : Resending). has_name r.roomy x) c.self.view_is ∙ c.requires in
    let ok = c.add-added.ensures.roomy (λ none. absurd (false≢true (sym none ∙ roomy))) in
    let added : c.add-added.new.self ≡ with_mark c.self.inside.heard x c.args.node = search rules in
    kept_heard c.self.inside _ (record { sender = c.name.inside.sender; seq = c.name.inside.seq })
    c.args.node (c.number.result - 1) c.settle_from.result refl refl
    (ap (λ (s : MarkSet). s.marks) added
    ∙ ap (λ (y : Label). placed ack_lt c.self.inside.heard.marks (y, c.args.node))
    (sym c.name.view_is)) refl place low c.settle_from.ensures.settled c.self.invariant
