use Rattle.urb_node.proofs.Common.{Entry, IsVerdict, Limits, List, memory_of, name_of, subst, sym}
use Rattle.urb_node.proofs.Common.{◌≤◌}
use Rattle.urb_node.proofs.ImageComparisons.{next_range, strange_is_neither}
use Rattle.urb_node.proofs.image_verdict.judge_image.Goals as goal

pub copy_with_doubtful-requires : goal.copy_with_doubtful-requires
copy_with_doubtful-requires g c r there =
    subst (λ (size : Limits). ((name_of r).sender ≤ size.n) × ((name_of r).seq ≤ size.cap))
    (sym c.requires.kept.fifo_limits)
    (next_range (memory_of c.args.held.now) r (c.requires.next r there))

pub returns-in-Some : goal.returns-in-Some
returns-in-Some g c =
    subst (λ (image : List Entry).
    IsVerdict image (memory_of c.args.held.now) c.args.doubt.now c.verdict_of.result)
    c.in_ok-index.ensures c.verdict_of.ensures

pub returns : goal.returns
returns g c =
    let strange = c.in_ok-released.ensures.strange c.in-None.is in
    strange_is_neither c.args.held.now c.args.doubt.now c.args.image.now strange.0 c.requires.kept
    c.recall.ensures c.requires.next strange.1 strange.2
