use Rattle.urb_feed.proofs.Common.{ap, arith, flat_map, numbers_from, offer, rules, ◌++◌, ◌+◌, ◌-◌}
use Rattle.urb_feed.proofs.Common.{◌∙◌, ◌≡◌}
use Rattle.urb_feed.proofs.NumberedLists.{more}
use Rattle.urb_feed.proofs.offers.push_offers.Goals as goal

pub loop-number-preserved : goal.loop-number-preserved
loop-number-preserved g c w shows =
    let q = c.args.target in
    let i = c.loop-number.number in
    let old = c.args.packets.now.items in
    let source : c.unwrap-source.result ≡ i = search rules in
    c.in_ok-push_offer.ensures w shows
    ∙ (ap (λ xs. xs ++ offer w q c.args.name c.unwrap-source.result)
    (c.loop-number.invariant w shows)
    ∙ (ap (λ p. (old ++ flat_map (offer w q c.args.name) (numbers_from 1 (i - 1)))
    ++ offer w q c.args.name p) source
    ∙ more (offer w q c.args.name) 1 (i - 1) i (i + 1 - 1) old (omega arith) (omega arith)))
