use Rattle.urb_certified.proofs.Common.{low_of, rules, sym, ◌∙◌, ◌≡◌}
use Rattle.urb_certified.proofs.SenderReaches.{reach_joins, reach_stays}
use Rattle.urb_certified.proofs.parts.reach_with.Goals as goal

pub returns-then-is_next : goal.returns-then-is_next
returns-then-is_next c =
    let run = c.run_end.ensures in
    sym (reach_joins c.args.low.now c.args.above.now c.args.name c.run_end.result c.requires
    c.recall.ensures.sender.0 (c.is_next.ensures.cases c.if-is_next.true)
    run.from run.held run.stops)

pub returns : goal.returns
returns c =
    let low : c.low_of.result ≡ low_of c.args.low.now c.args.name.sender = search rules in
    low ∙ sym (reach_stays c.args.low.now c.args.above.now c.args.name c.requires
    c.recall.ensures.sender.0 (c.is_next.ensures.other c.if-is_next.false))
