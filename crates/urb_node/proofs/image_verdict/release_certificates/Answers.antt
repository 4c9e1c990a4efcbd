use Rattle.urb_node.proofs.Common.{IsReleaseOf, Label, List, Some, arith, cert, false, length, refl}
use Rattle.urb_node.proofs.Common.{reverse, rules, slice_get, subst, sym, take, true, ◌<◌, ◌≡◌}
use Rattle.std.proofs.lemmas.Option.{slice_get_read}
use Rattle.urb_node.proofs.ImagePairs.{certified_at, certified_to}
use Rattle.urb_node.proofs.image_verdict.release_certificates.Goals as goal

pub returns-then-not-branch-clause-strange : goal.returns-then-not-branch-clause-strange
returns-then-not-branch-clause-strange g c none =
    let less : c.loop-record.record-index < length c.args.image.now = omega arith in
    let got : slice_get c.args.image.now c.loop-record.record-index ≡ Some c.record-item.result =
    slice_get_read c.args.image.now
    (length c.args.image.now) c.loop-record.record-index c.record-item.result refl less
    c.record-item.is in
    let not : c.in_ok-certify_record.field-0 ≡ false = search rules in
    let strange = c.in_ok-certify_record.ensures.strange not in (
      strange.0,
      certified_at c.args.image.now c.loop-record.record-index c.record-item.result
          strange.0 got strange.1,
      strange.2,
    )

pub loop-record-preserved : goal.loop-record-preserved
loop-record-preserved g c =
    let less : c.loop-record.record-index < length c.args.image.now = omega arith in
    let got : slice_get c.args.image.now c.loop-record.record-index ≡ Some c.record-item.result =
    slice_get_read c.args.image.now
    (length c.args.image.now) c.loop-record.record-index c.record-item.result refl less
    c.record-item.is in
    let fits : c.in_ok-certify_record.field-0 ≡ true = search rules in (
      c.certify_record.ensures.limits,
      subst (λ (xs : List Label). IsReleaseOf xs c.certify_record.new.fifo)
          (sym (certified_to c.args.image.now c.loop-record.record-index c.record-item.result got))
          (c.in_ok-certify_record.ensures.released fits
          (reverse (cert (take c.loop-record.record-index c.args.image.now)))
          c.loop-record.invariant.1),
    )
