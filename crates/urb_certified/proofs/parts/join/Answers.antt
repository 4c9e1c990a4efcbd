use Rattle.urb_certified.proofs.Common.{IsJoined, subst, sym}
use Rattle.urb_certified.proofs.CertifiedParts.{puts}
use Rattle.urb_certified.proofs.parts.join.Goals as goal

pub returns-clause-ok : goal.returns-clause-ok
returns-clause-ok g c =
    let low = c.args.low.now in
    let above = c.args.above.now.items in
    let x = c.args.name in
    subst (IsJoined low above x low) (sym c.in_ok-put_above.ensures.ok)
    (puts low above x c.requires.parts c.recall.ensures c.requires.absent
    (c.is_next.ensures.other c.if-is_next.false))
