use Rattle.urb_feed.proofs.Common.{[], ap, arith, flat_map, needed_of, numbers_from, rules, suc}
use Rattle.urb_feed.proofs.Common.{◌++◌, ◌+◌, ◌-◌, ◌∙◌, ◌≡◌}
use Rattle.urb_feed.proofs.NumberedLists.{more}
use Rattle.urb_feed.proofs.feed.make_needed.Goals as goal

pub loop-number-preserved : goal.loop-number-preserved
loop-number-preserved g c w shows =
    let i = c.loop-number.number in
    let f = needed_of w c.args.target (suc c.args.from) (c.args.upto - c.args.from) in
    let sender : c.row_of-row.result.sender ≡ i = search rules in
    c.in_ok-push_needed_of.ensures w shows
    ∙ (ap (λ xs. xs ++ f c.row_of-row.result.sender) (c.loop-number.invariant w shows)
    ∙ (ap (λ s. flat_map f (numbers_from 1 (i - 1)) ++ f s) sender
    ∙ more f 1 (i - 1) i (i + 1 - 1) [] (omega arith) (omega arith)))
