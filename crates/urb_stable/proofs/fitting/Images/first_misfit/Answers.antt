use Rattle.urb_stable.proofs.Common.{Entry, List, NodeImage, Some, [], ap, arith, first_of_all}
use Rattle.urb_stable.proofs.Common.{image_of, length, map, misfits_behind, refl, slice_get}
use Rattle.urb_stable.proofs.Common.{slice_get_read, subst, suc, sym, ◌<◌, ◌∙◌, ◌≡◌, ◌≤◌}
use Rattle.std.proofs.lemmas.List.{length-map}
use Rattle.urb_stable.proofs.FirstMisfits.{found, image-at, node-none, node-step, node-told, passed}
use Rattle.urb_stable.proofs.fitting.Images.first_misfit.Goals as goal

pub node_at-node-requires : goal.node_at-node-requires
node_at-node-requires g c =
    let items = c.deref-image-items.result.now in
    let all : map (λ image. image.records) items ≡ c.args.self.now =
    ap (λ (xs : List NodeImage). map (λ image. image.records) xs)
    c.deref-image-items.ensures.value ∙ c.self.view_is in
    let size : length items ≡ c.args.config.n =
    sym (length-map items (λ image. image.records))
    ∙ (ap (λ (xs : List (List Entry)). length xs) all ∙ c.requires) in
    let test = c.loop-i-test.true in
    omega (arith, size, test)

pub misfit_in-requires-clause-size : goal.misfit_in-requires-clause-size
misfit_in-requires-clause-size g c =
    let items = c.deref.result.now in
    let all : map (λ image. image.records) items ≡ c.args.self.now =
    ap (λ (xs : List NodeImage). map (λ image. image.records) xs) c.deref.ensures.value
    ∙ c.self.view_is in
    sym (length-map items (λ image. image.records))
    ∙ (ap (λ (xs : List (List Entry)). length xs) all ∙ c.requires)

pub misfit_in-requires-clause-numbered : goal.misfit_in-requires-clause-numbered
misfit_in-requires-clause-numbered g c =
    let items = c.deref-image-items.result.now in
    let node = c.node_at-node.ensures in
    let here : slice_get items c.loop-i.i ≡ Some c.image-item.result =
    slice_get_read items (length items)
    c.loop-i.i c.image-item.result refl c.loop-i-test.true c.image-item.is in
    let number =
    c.self.invariant c.loop-i.i c.image-item.result
    (subst (λ (xs : List NodeImage). slice_get xs c.loop-i.i ≡ Some c.image-item.result)
    c.deref-image-items.ensures.value here) in
    omega (arith, number, node)

pub returns-in-Some : goal.returns-in-Some
returns-in-Some g c =
    let records : NodeImage → List Entry = λ image. image.records in
    let items = c.deref-image-items.result.now in
    let all : map records items ≡ c.args.self.now =
    ap (λ (xs : List NodeImage). map records xs) c.deref-image-items.ensures.value
    ∙ c.self.view_is in
    let lent : map records c.deref.result.now ≡ c.args.self.now =
    ap (λ (xs : List NodeImage). map records xs) c.deref.ensures.value ∙ c.self.view_is in
    let images = image_of c.args.self.now in
    let size : length items ≡ c.args.config.n =
    sym (length-map items records)
    ∙ (ap (λ (xs : List (List Entry)). length xs) all ∙ c.requires) in
    let test = c.loop-i-test.true in
    let in_group : c.loop-i.i < c.args.config.n = omega (arith, size, test) in
    let image : c.image-item.result.records ≡ images (suc c.loop-i.i) =
    sym (image-at records items c.loop-i.i c.image-item.result
    (slice_get_read items (length items)
    c.loop-i.i c.image-item.result refl test c.image-item.is))
    ∙ ap (λ (xs : List (List Entry)). image_of xs (suc c.loop-i.i)) all in
    let node = c.node_at-node.ensures in
    let first : first_of_all (misfits_behind c.args.config images (suc c.loop-i.i) []
    (images (suc c.loop-i.i))) ≡ c.misfit_in.result =
    node-told c.args.config images c.loop-i.i c.node_at-node.result c.image-item.result.records
    c.misfit_in.result node image
    (c.misfit_in.ensures ∙ ap (λ (xs : List (List Entry)).
    first_of_all (misfits_behind c.args.config (image_of xs) c.node_at-node.result
    [] c.image-item.result.records)) lent) in
    found _ _ _ _ _ (node-step (λ p. misfits_behind c.args.config images p [] (images p))
    c.loop-i.i c.args.config.n in_group) (first ∙ c.in-Some.is) c.loop-i.invariant

pub loop-i-preserved : goal.loop-i-preserved
loop-i-preserved g c =
    let records : NodeImage → List Entry = λ image. image.records in
    let items = c.deref-image-items.result.now in
    let all : map records items ≡ c.args.self.now =
    ap (λ (xs : List NodeImage). map records xs) c.deref-image-items.ensures.value
    ∙ c.self.view_is in
    let lent : map records c.deref.result.now ≡ c.args.self.now =
    ap (λ (xs : List NodeImage). map records xs) c.deref.ensures.value ∙ c.self.view_is in
    let images = image_of c.args.self.now in
    let size : length items ≡ c.args.config.n =
    sym (length-map items records)
    ∙ (ap (λ (xs : List (List Entry)). length xs) all ∙ c.requires) in
    let test = c.loop-i-test.true in
    let in_group : c.loop-i.i < c.args.config.n = omega (arith, size, test) in
    let image : c.image-item.result.records ≡ images (suc c.loop-i.i) =
    sym (image-at records items c.loop-i.i c.image-item.result
    (slice_get_read items (length items)
    c.loop-i.i c.image-item.result refl test c.image-item.is))
    ∙ ap (λ (xs : List (List Entry)). image_of xs (suc c.loop-i.i)) all in
    let node = c.node_at-node.ensures in
    let first : first_of_all (misfits_behind c.args.config images (suc c.loop-i.i) []
    (images (suc c.loop-i.i))) ≡ c.misfit_in.result =
    node-told c.args.config images c.loop-i.i c.node_at-node.result c.image-item.result.records
    c.misfit_in.result node image
    (c.misfit_in.ensures ∙ ap (λ (xs : List (List Entry)).
    first_of_all (misfits_behind c.args.config (image_of xs) c.node_at-node.result
    [] c.image-item.result.records)) lent) in
    passed _ _ _ _ (node-step (λ p. misfits_behind c.args.config images p [] (images p))
    c.loop-i.i c.args.config.n in_group) (first ∙ c.in_default.is) c.loop-i.invariant

pub returns : goal.returns
returns g c =
    let items = c.deref-image-items.result.now in
    let all : map (λ image. image.records) items ≡ c.args.self.now =
    ap (λ (xs : List NodeImage). map (λ image. image.records) xs)
    c.deref-image-items.ensures.value ∙ c.self.view_is in
    let size : length items ≡ c.args.config.n =
    sym (length-map items (λ image. image.records))
    ∙ (ap (λ (xs : List (List Entry)). length xs) all ∙ c.requires) in
    let images = image_of c.args.self.now in
    let test = c.loop-i-test.false in
    let past : c.args.config.n ≤ c.loop-i.i = omega (arith, size, test) in
    sym (node-none (λ p. misfits_behind c.args.config images p [] (images p))
    c.loop-i.i c.args.config.n past) ∙ c.loop-i.invariant
