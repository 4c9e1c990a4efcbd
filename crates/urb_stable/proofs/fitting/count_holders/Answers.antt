use Rattle.urb_stable.proofs.Common.{NodeImage, has_pair, length-filter, pend, rules, tests, ◌∙◌}
use Rattle.std.proofs.lemmas.Iterator.{YieldsList-from_slice}
use Rattle.std.proofs.lemmas.Iterator.Consumers.{YieldsList-from_filter, count_from_yields_List}
use Rattle.urb_stable.proofs.ImageCounts.{count-images}
use Rattle.urb_stable.proofs.fitting.count_holders.Goals as goal

pub returns-clause-count : goal.returns-clause-count
returns-clause-count g c =
    let test =
    λ (image : NodeImage). has_pair (pend image.records) c.args.name c.args.message.now in
    count_from_yields_List c.filter.result _ c.count.ensures.ran
    (YieldsList-from_filter _ test
    (YieldsList-from_slice c.args.images.now (cc)) c.filter.ensures.closure
    (λ x b q k. search (rules, tests)))
    ∙ (length-filter test c.args.images.now
    ∙ count-images (λ image. image.records)
    (λ records. has_pair (pend records) c.args.name c.args.message.now) c.args.images.now)
