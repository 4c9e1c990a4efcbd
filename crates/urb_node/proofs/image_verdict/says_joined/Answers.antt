use Rattle.urb_node.proofs.Common.{Delivery, Entry, Option, Some, ap, certified_by, delivered_by}
use Rattle.urb_node.proofs.Common.{subst, sym, ◌∙◌}
use Rattle.urb_node.specs.internal.ImageVerdicts.{IsJoined}
use Rattle.urb_node.proofs.ImageComparisons.{joined_decides}
use Rattle.urb_node.proofs.HoldableDrafts.{one_more_fits}
use Rattle.urb_node.proofs.image_verdict.says_joined.Goals as goal

pub overflow_add-held : goal.overflow_add-held
overflow_add-held g c =
    one_more_fits c.args.held.now c.requires.kept c.recall.ensures c.recall-2.ensures

pub returns-in-Some-Some : goal.returns-in-Some-Some
returns-in-Some-Some g c =
    let fifo = c.args.held.now.fifo in
    let r = c.in-Some-Some.field-0-0 in
    let joined : IsJoined fifo (Some r) (Some c.in-Some-Some.joined) =
    subst (λ (o : Option Delivery). IsJoined fifo (Some r) o) c.in-Some-Some.is-1
    (subst (λ (o : Option Entry). IsJoined fifo o c.args.joined.now)
    c.in-Some-Some.is-0 c.requires.joined) in
    joined_decides c.args.held.now c.args.doubt.now r c.args.image.now
    c.in-Some-Some.joined.certified c.in-Some-Some.joined.log c.says.result c.requires.kept
    c.in-Some-Some.is-0
    (joined.0 ∙ ap (certified_by fifo.certified) (sym c.in-Some-Some.is-0))
    (joined.1 ∙ ap (delivered_by fifo.log fifo.certified) (sym c.in-Some-Some.is-0))
    c.says.ensures
