use Rattle.urb_group.proofs.Common.{Label, ap}
use Rattle.urb_group.proofs.tails.TailAnswers.{next-is, next-not}
use Rattle.urb_group.proofs.tail_rules.is_next.Goals as goal

pub returns-then-not-add_up : goal.returns-then-not-add_up
returns-then-not-add_up g c =
    next-not c.args.current.now c.args.node c.requires c.args.before.now c.args.name
    c.args.message.now c.own_len.result c.count_own-own.result.0 c.own_len.ensures
    c.count_own-own.ensures.own c.recall.ensures.seq.0
    (rw (ap (λ (x : Label). x.seq) c.name.view_is) at
    (rw c.if-not-add_up.true at c.add_up.ensures))

pub returns : goal.returns
returns g c =
    next-is c.args.current.now c.args.node c.requires c.args.before.now c.args.name
    c.args.message.now c.own_len.result c.count_own-own.result.0 c.own_len.ensures
    c.count_own-own.ensures.own c.recall.ensures.seq.0 c.add_up-2.result c.count_client.result
    c.count_own-own.result.1
    (rw (ap (λ (x : Label). x.seq) c.name.view_is) at
    (rw c.if-not-add_up.false at c.add_up.ensures))
    (rw c.client-2.ensures at c.count_client.ensures)
    (rw c.client.ensures at c.count_own-own.ensures.of_client)
    c.number.ensures.range
    (rw c.number.ensures.value at c.add_up-2.ensures)
