use Rattle.std.proofs.Common.{sym}
use Rattle.urb_feed.proofs.LogRows.{own_is, row_by_count, told_in_order, told_log}
use Rattle.urb_feed.proofs.feed.row_of.Goals as goal

pub delivered_of-delivered-requires : goal.delivered_of-delivered-requires
delivered_of-delivered-requires g c =
    told_in_order c.args.group.now c.recall.ensures.sound c.recall.ensures.safe c.args.target
    c.args.sender c.in-Some.log.now (rw c.in-Some.is at c.log.ensures)

pub returns-clause-row : goal.returns-clause-row
returns-clause-row g c w shows =
    let told = rw c.in-Some.is at c.log.ensures in
    let is = told_log c.args.group.now c.args.target c.in-Some.log.now told w shows in
    row_by_count w c.args.target c.args.sender c.unwrap_or-own.result
    c.delivered_of-delivered.result c.in-Some.log.now
    (own_is w c.args.sender c.unwrap_or-own.result c.own_len.result (c.own_len.ensures w shows)
    c.unwrap_or-own.ensures) is.0 (sym is.1)
    (told_in_order c.args.group.now c.recall.ensures.sound c.recall.ensures.safe c.args.target
    c.args.sender c.in-Some.log.now told) c.delivered_of-delivered.ensures
