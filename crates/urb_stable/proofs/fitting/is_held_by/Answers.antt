use Rattle.urb_stable.proofs.Common.{Entry, List, ap, has_pair, length, pend, refl, slice_get_read}
use Rattle.urb_stable.proofs.Common.{sym, ℕ, ◌-◌, ◌∙◌}
use Rattle.urb_stable.proofs.FirstMisfits.{image-of}
use Rattle.urb_stable.proofs.fitting.is_held_by.Goals as goal

pub returns-in-Some : goal.returns-in-Some
returns-in-Some g c =
    let place = c.in-Some.ensures.lookup in
    c.has.ensures
    ∙ ap (λ (records : List Entry). has_pair (pend records) c.args.name c.args.message.now)
    (sym (image-of (λ image. image.records) c.args.images.now c.args.node
    (c.number.result - 1) c.in-Some.image.now
    (ap (λ (k : ℕ). k - 1) c.number.ensures.number) c.number.ensures.range.0
    (slice_get_read c.args.images.now (length c.args.images.now)
    (c.number.result - 1) c.in-Some.image.now refl place.3.0 place.1)))
