use Rattle.urb_stable.proofs.Common.{length, refl, slice_get_read, take}
use Rattle.urb_stable.proofs.EarlierFacts.{has-told, names-next, told-more}
use Rattle.urb_stable.proofs.earlier_records.tell_next.Goals as goal

pub returns : goal.returns
returns g c =
    let image = c.args.image.now in
    let i = c.args.place in
    let r = c.index-image-place.result in
    let within = c.requires.within in
    let known = c.requires.told in
    has-told c.args.number image i c.count_next.result _
    (names-next image i r _ within c.index-image-place.is
    (c.in_ok-certify_next.ensures (take i image) known.names))
    (told-more c.args.number image i r c.args.pass.now.told.items _ c.facts_about.result
    (slice_get_read image (length image) i r refl within c.index-image-place.is)
    (c.facts_about.ensures c.args.number (take i image) known.names known.counts)
    (c.in_ok-push.ensures).items known.told) c.count_next.ensures
