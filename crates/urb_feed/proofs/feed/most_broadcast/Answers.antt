use Rattle.std.proofs.Common.{ap, arith, length, rules, ℕ, ◌+◌, ◌-◌, ◌∙◌, ◌≡◌}
use Rattle.urb_feed.proofs.GreatestValues.{greatest_more}
use Rattle.urb_feed.proofs.LogRows.{is_node_of, own_at_node, own_is, own_of}
use Rattle.urb_feed.proofs.feed.most_broadcast.Goals as goal
use Rattle.urb_feed.proofs.feed.most_broadcast.Goals.{else-most-own, then-most-own}

pub loop-number-preserved : goal.loop-number-preserved
loop-number-preserved g c w shows =
    let i = c.loop-number.number in
    let node : c.unwrap.result ≡ i = search rules in
    let size : c.n-number-end.result ≡ c.args.group.now.size.n = search rules in
    let here =
    is_node_of c.args.group.now w shows c.n-number-end.result i size (omega arith) (omega arith) in
    let counted : c.unwrap_or-own.result ≡ own_of w i =
    own_is w c.unwrap.result c.unwrap_or-own.result c.own_len.result (c.own_len.ensures w shows)
    c.unwrap_or-own.ensures ∙ ap (own_of w) node in
    let own = own_at_node w i c.unwrap_or-own.result counted here in
    let before = c.loop-number.invariant w shows in
    let f : ℕ → ℕ = λ s. length (w.node s).broadcast in
    let next = greatest_more f (i - 1) i (i + 1 - 1) (omega arith) (omega arith) in
    elim c.if-most-own.branch [
      | then-most-own v ↦ omega (arith, v.most-is, v.if-most-own.true, own, before, next)
      | else-most-own v ↦ omega (arith, v.most-is, v.if-most-own.false, own, before, next)
    ]
