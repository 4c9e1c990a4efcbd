use Rattle.std.proofs.Common.{Option, Some, arith, length, refl, subst, sym, ℕ, ◌<◌, ◌∙◌}
use Rattle.std.proofs.lemmas.Option.{slice_get_read}
use Rattle.urb_stable.proofs.RecordWalks.{Seeks, left, left-less, seeks-end, seeks-first, seeks-found}
use Rattle.urb_stable.proofs.RecordWalks.{seeks-next, stands-next, stands-within}
use Rattle.urb_stable.proofs.index.has_pair.Goals as goal

pub loop-place-init : goal.loop-place-init
loop-place-init g c =
    seeks-first c.args.image.now c.args.name c.args.message.now c.args.places.now
    c.copied-place.result c.requires (c.copied-place.ensures ∙ c.get.ensures.value)

pub returns-then-is_of_pair : goal.returns-then-is_of_pair
returns-then-is_of_pair g c =
    let image = c.args.image.now in
    let here : Seeks image c.args.name c.args.message.now (Some c.in-Some.at) =
    subst (λ (p : Option ℕ). Seeks image c.args.name c.args.message.now p)
    c.in-Some.is c.loop-place.invariant in
    let within : c.in-Some.at < length image =
    stands-within image c.args.name here.0 c.in-Some.at here.1 in
    seeks-found image c.args.name c.args.message.now c.in-Some.at c.index-image-at.result here
    (slice_get_read image (length image)
    c.in-Some.at c.index-image-at.result refl within c.index-image-at.is)
    (sym c.if-is_of_pair.true ∙ c.is_of_pair.ensures)

pub loop-place-preserved : goal.loop-place-preserved
loop-place-preserved g c =
    let image = c.args.image.now in
    let items = c.args.places.now.before.items in
    let here : Seeks image c.args.name c.args.message.now (Some c.in-Some.at) =
    subst (λ (p : Option ℕ). Seeks image c.args.name c.args.message.now p)
    c.in-Some.is c.loop-place.invariant in
    let within : c.in-Some.at < length image =
    stands-within image c.args.name here.0 c.in-Some.at here.1 in
    let inside : c.in-Some.at < length items = omega (arith, within, c.requires.size) in
    seeks-next image c.args.name c.args.message.now c.args.places.now c.in-Some.at
    c.index-image-at.result c.index-place.result.now c.requires here
    (slice_get_read image (length image)
    c.in-Some.at c.index-image-at.result refl within c.index-image-at.is)
    (sym c.if-is_of_pair.false ∙ c.is_of_pair.ensures)
    (slice_get_read items (length items)
    c.in-Some.at c.index-place.result.now refl inside c.index-place.ensures)

pub loop-place-smaller : goal.loop-place-smaller
loop-place-smaller g c =
    let image = c.args.image.now in
    let items = c.args.places.now.before.items in
    let here : Seeks image c.args.name c.args.message.now (Some c.in-Some.at) =
    subst (λ (p : Option ℕ). Seeks image c.args.name c.args.message.now p)
    c.in-Some.is c.loop-place.invariant in
    let within : c.in-Some.at < length image =
    stands-within image c.args.name here.0 c.in-Some.at here.1 in
    let inside : c.in-Some.at < length items = omega (arith, within, c.requires.size) in
    subst (λ (p : Option ℕ). left c.index-place.result.now < left p) (sym c.in-Some.is)
    (left-less image c.args.name c.in-Some.at c.index-place.result.now
    (stands-next image c.args.name c.args.places.now here.0 c.in-Some.at c.index-image-at.result
    c.index-place.result.now c.requires here.1
    (slice_get_read image (length image)
    c.in-Some.at c.index-image-at.result refl within c.index-image-at.is)
    (slice_get_read items (length items)
    c.in-Some.at c.index-place.result.now refl inside c.index-place.ensures)))

pub returns : goal.returns
returns g c =
    seeks-end c.args.image.now c.args.name c.args.message.now
    (subst (λ (p : Option ℕ). Seeks c.args.image.now c.args.name c.args.message.now p)
    c.in_default.is c.loop-place.invariant)
