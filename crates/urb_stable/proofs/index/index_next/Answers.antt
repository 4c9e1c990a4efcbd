use Rattle.urb_stable.proofs.Common.{ap, by_name, length, refl, slice_get_read, ◌∙◌}
use Rattle.urb_stable.proofs.IndexGrowth.{index-certificate, index-next}
use Rattle.std.specs.BTreeMap as tree
use Rattle.urb_stable.proofs.index.index_next.Goals as goal

pub returns-in-Cert : goal.returns-in-Cert
returns-in-Cert g c =
    index-certificate c.args.image.now c.args.place c.in-Cert.field-0 c.index-image-place.result
    c.args.index.now _ c.copied.result c.requires.within c.index-image-place.is
    (slice_get_read c.args.image.now
    (length c.args.image.now) c.args.place c.index-image-place.result refl c.requires.within
    c.index-image-place.is) c.in-Cert.is c.requires.indexed
    (c.copied.ensures ∙ (c.get.ensures.value
    ∙ ap (λ x. tree.get by_name c.args.index.now.last x) c.name-name.ensures))
    (c.in_ok-push.ensures).items refl

pub returns-in_ok-insert-in-Pend : goal.returns-in_ok-insert-in-Pend
returns-in_ok-insert-in-Pend g c =
    index-next c.args.image.now c.args.place c.name-name.result c.index-image-place.result
    c.args.index.now _ c.copied.result c.requires.within c.index-image-place.is
    (slice_get_read c.args.image.now
    (length c.args.image.now) c.args.place c.index-image-place.result refl c.requires.within
    c.index-image-place.is) c.in-Pend.is c.name-name.ensures c.requires.indexed
    (c.copied.ensures ∙ (c.get.ensures.value
    ∙ ap (λ x. tree.get by_name c.args.index.now.last x) c.name-name.ensures))
    (c.in_ok-push.ensures).items (c.in_ok-insert-in-Pend.ensures).updates
