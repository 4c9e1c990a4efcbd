use Rattle.urb_stubborn.proofs.Common.{acked, ap, arith, false, not, or_left, rules, sym, true}
use Rattle.urb_stubborn.proofs.Common.{◌&&◌, ◌+◌, ◌<◌, ◌==◌, ◌||◌, ◌∙◌, ◌≡◌, ◌≤◌}
use Rattle.urb_stubborn.proofs.DueNames.{due_end, due_from, due_next, due_start}
use Rattle.urb_stubborn.proofs.due.is_due.Goals as goal

pub loop-number-init : goal.loop-number-init
loop-number-init g c = due_start c.args.config.n c.args.node c.args.heard.now.marks c.args.name

pub loop-number-preserved : goal.loop-number-preserved
loop-number-preserved g c =
    let marks = c.args.heard.now.marks in
    let x = c.args.name in
    let i = c.loop-number.number in
    let target : c.unwrap-other.result ≡ i = search rules in
    let within : i ≤ c.args.config.n = omega arith in
    let fails : (not (i == c.args.node) && not (acked marks x i)) ≡ false =
    sym (c.is_unheard.ensures ∙ ap
    (λ q. not (q == c.args.node) && not (acked marks x q)) target) ∙ c.if-is_unheard.false in
    sym (due_next c.args.config.n c.args.node marks x i within
    ∙ ap (λ b. b || due_from c.args.config.n c.args.node marks x (i + 1)) fails)
    ∙ c.loop-number.invariant

pub returns-then-is_unheard : goal.returns-then-is_unheard
returns-then-is_unheard g c =
    let marks = c.args.heard.now.marks in
    let x = c.args.name in
    let i = c.loop-number.number in
    let target : c.unwrap-other.result ≡ i = search rules in
    let within : i ≤ c.args.config.n = omega arith in
    let passes : (not (i == c.args.node) && not (acked marks x i)) ≡ true =
    sym (c.is_unheard.ensures ∙ ap
    (λ q. not (q == c.args.node) && not (acked marks x q)) target) ∙ c.if-is_unheard.true in
    sym (or_left (not (i == c.args.node) && not (acked marks x i))
    (due_from c.args.config.n c.args.node marks x (i + 1)) passes)
    ∙ (sym (due_next c.args.config.n c.args.node marks x i within) ∙ c.loop-number.invariant)

pub returns : goal.returns
returns g c =
    let over : c.args.config.n < c.loop-number.number = omega arith in
    sym (due_end c.args.config.n c.args.node c.args.heard.now.marks c.args.name c.loop-number.number
    over) ∙ c.loop-number.invariant
