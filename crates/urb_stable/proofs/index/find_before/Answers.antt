use Rattle.std.proofs.Common.{Option, Some, arith, length, refl, subst, sym, ℕ, ◌<◌}
use Rattle.std.proofs.lemmas.Option.{slice_get_read, slice_get_within}
use Rattle.std.specs.Prelude.{option_map}
use Rattle.urb_stable.proofs.RecordWalks.{Looks, left, left-less, looks-end, looks-first, looks-next}
use Rattle.urb_stable.proofs.RecordWalks.{named-found, stands-next, stands-within}
use Rattle.urb_stable.proofs.index.find_before.Goals as goal

pub loop-next-init : goal.loop-next-init
loop-next-init g c =
    let image = c.args.image.now in
    let items = c.args.places.now.before.items in
    let here = named-found image c.args.place c.args.name c.requires.named in
    let within : c.args.place < length image = slice_get_within image c.args.place here.0 here.1 in
    let inside : c.args.place < length items = omega (arith, within, c.requires.indexed.size) in
    looks-first image c.args.name c.args.places.now c.args.place here.0 c.index-next.result.now
    c.requires.indexed within here.1 here.2
    (slice_get_read items (length items)
    c.args.place c.index-next.result.now refl inside c.index-next.ensures)

pub loop-next-preserved : goal.loop-next-preserved
loop-next-preserved g c =
    let image = c.args.image.now in
    let items = c.args.places.now.before.items in
    let found = option_map (λ m. m.now) c.loop-next.found in
    let here : Looks image c.args.name c.args.place found (Some c.in-Some.at) =
    subst (λ (p : Option ℕ). Looks image c.args.name c.args.place found p)
    c.in-Some.is c.loop-next.invariant in
    let within : c.in-Some.at < length image =
    stands-within image c.args.name here.0 c.in-Some.at here.1 in
    let inside : c.in-Some.at < length items = omega (arith, within, c.requires.indexed.size) in
    looks-next image c.args.name c.args.places.now c.args.place c.in-Some.at c.index-image-at.result
    found (option_map (λ m. m.now) c.message_at-found.result)
    c.index-next-in-Some.result.now c.requires.indexed here
    (slice_get_read image (length image)
    c.in-Some.at c.index-image-at.result refl within c.index-image-at.is)
    c.message_at-found.ensures
    (slice_get_read items (length items)
    c.in-Some.at c.index-next-in-Some.result.now refl inside c.index-next-in-Some.ensures)

pub loop-next-smaller : goal.loop-next-smaller
loop-next-smaller g c =
    let image = c.args.image.now in
    let items = c.args.places.now.before.items in
    let found = option_map (λ m. m.now) c.loop-next.found in
    let here : Looks image c.args.name c.args.place found (Some c.in-Some.at) =
    subst (λ (p : Option ℕ). Looks image c.args.name c.args.place found p)
    c.in-Some.is c.loop-next.invariant in
    let within : c.in-Some.at < length image =
    stands-within image c.args.name here.0 c.in-Some.at here.1 in
    let inside : c.in-Some.at < length items = omega (arith, within, c.requires.indexed.size) in
    subst (λ (p : Option ℕ). left c.index-next-in-Some.result.now < left p) (sym c.in-Some.is)
    (left-less image c.args.name c.in-Some.at c.index-next-in-Some.result.now
    (stands-next image c.args.name c.args.places.now here.0 c.in-Some.at c.index-image-at.result
    c.index-next-in-Some.result.now c.requires.indexed here.1
    (slice_get_read image (length image)
    c.in-Some.at c.index-image-at.result refl within c.index-image-at.is)
    (slice_get_read items (length items)
    c.in-Some.at c.index-next-in-Some.result.now refl inside c.index-next-in-Some.ensures)))

pub returns : goal.returns
returns g c =
    let found = option_map (λ m. m.now) c.loop-next.found in
    looks-end c.args.image.now c.args.name c.args.place found
    (subst (λ (p : Option ℕ). Looks c.args.image.now c.args.name c.args.place found p)
    c.in_default.is c.loop-next.invariant)
