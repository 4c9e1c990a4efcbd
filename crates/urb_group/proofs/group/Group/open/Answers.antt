use Rattle.urb_group.proofs.Common.{All, AreImages, IsEntry, KeepsOwn, List, MAX_NODES, None}
use Rattle.urb_group.proofs.Common.{ShowsReady, Some, [], add-one, arith, first_misfit, length}
use Rattle.urb_group.proofs.Common.{length-map, map, opened_node, refl, rules, subst, suc, sym, ℕ}
use Rattle.urb_group.proofs.Common.{◌++◌, ◌+◌, ◌∙◌, ◌∷◌, ◌≡◌, ◌≤◌}
use Rattle.urb_stable.specs.Images.{image_of}
use Rattle.urb_group.proofs.moves.NewPlaces.{some_from, value_from}
use Rattle.urb_group.proofs.moves.OpenedPlaces.{HasOpened, all-group, all-opens, more-opened}
use Rattle.urb_group.proofs.moves.OpenedPlaces.{next-counted, next-keeps, none-opened}
use Rattle.urb_group.proofs.group.Group.open.Goals as goal

none_left : {X : Type 0} (xs : List X) (n : ℕ) → n ≡ length xs → n ≡ 0 → xs ≡ []
none_left [] n e z = refl
none_left (x ∷ xs) n e z = absurd (omega arith)

pub returns-in-Some : goal.returns-in-Some
returns-in-Some g c =
    let same : c.deref-2.result.now ≡ c.args.images.items = search rules in
    subst (λ xs. first_misfit c.args.config (image_of (map (λ image. image.items) xs))
    ≡ Some c.in-Some.misfit) same (sym c.in_ok-misfit.ensures ∙ c.in-Some.is)

pub loop-image-init : goal.loop-image-init
loop-image-init g c =
    let empty : c.in_ok-nodes.nodes.items ≡ [] = search rules in
    record {
      opened =
          subst (λ left. HasOpened (λ image. image.items) c.args.config c.args.images.items
          [] left 0 c.in_ok-nodes.nodes.items)
          (sym c.into_iter-image-iterator.ensures.into_iter_gives.0)
          (subst (λ places. HasOpened (λ image. image.items) c.args.config c.args.images.items
          [] c.args.images.items 0 places) (sym empty)
          (none-opened (λ image. image.items) c.args.config c.args.images.items));
      count = search rules;
      room =
          omega (
            arith,
            c.in_ok-nodes.ensures.capacity,
            c.requires,
            c.n-n.ensures.value,
            c.from.ensures,
          );
    }

pub unwrap-node-requires : goal.unwrap-node-requires
unwrap-node-requires g c =
    let opened = rw c.in-Some-image.ensures.steps.0 at c.loop-image.invariant.opened in
    let few = next-counted opened in
    let below : c.loop-image.number + 1 ≤ MAX_NODES =
    omega (arith, few, c.requires, c.n-n.ensures.range.1) in
    some_from c.new.result _ c.new.ensures (omega arith, below)

pub open_beside-requires-clause-node : goal.open_beside-requires-clause-node
open_beside-requires-clause-node g c =
    let opened = rw c.in-Some-image.ensures.steps.0 at c.loop-image.invariant.opened in
    let few = next-counted opened in
    let is : c.unwrap-node.result ≡ c.loop-image.number + 1 =
    value_from c.new.result _ (c.loop-image.number + 1)
    c.unwrap-node.result c.new.ensures c.unwrap-node.ensures in
    omega (arith, few, is, c.requires)

pub open_beside-requires-clause-rules : goal.open_beside-requires-clause-rules
open_beside-requires-clause-rules g c =
    let opened = rw c.in-Some-image.ensures.steps.0 at c.loop-image.invariant.opened in
    let same : c.deref-2.result.now ≡ c.args.images.items = search rules in
    let read : c.deref.result.now ≡ c.args.images.items = search rules in
    let none =
    subst (λ xs. first_misfit c.args.config (image_of (map (λ image. image.items) xs)) ≡ None)
    same (sym c.in_ok-misfit.ensures ∙ c.in_default.is) in
    let are : AreImages c.args.config (map (λ image. image.items) c.args.images.items) =
    record {
      one_each = length-map c.args.images.items (λ image. image.items) ∙ c.requires;
      limits =
          subst (λ xs. All (All IsEntry) (map (λ image. image.items) xs))
          read c.recall_images.ensures;
    } in
    let is : c.unwrap-node.result ≡ c.loop-image.number + 1 =
    value_from c.new.result _ (c.loop-image.number + 1)
    c.unwrap-node.result c.new.ensures c.unwrap-node.ensures in
    subst (λ (p : ℕ). KeepsOwn c.args.config p [] c.in-Some-image.image.items)
    (sym (is ∙ add-one c.loop-image.number))
    (next-keeps opened are none)

pub push_reserved-requires : goal.push_reserved-requires
push_reserved-requires g c =
    let opened = rw c.in-Some-image.ensures.steps.0 at c.loop-image.invariant.opened in
    let few = next-counted opened in
    omega (arith, few, c.requires, c.loop-image.invariant.count, c.loop-image.invariant.room)

pub loop-image-preserved : goal.loop-image-preserved
loop-image-preserved g c =
    let opened = rw c.in-Some-image.ensures.steps.0 at c.loop-image.invariant.opened in
    let is : c.unwrap-node.result ≡ suc c.loop-image.number =
    value_from c.new.result _ (c.loop-image.number + 1)
    c.unwrap-node.result c.new.ensures c.unwrap-node.ensures ∙ add-one c.loop-image.number in
    let shows =
    subst (λ (p : ℕ). ShowsReady c.in_ok-ready.ready
    (opened_node p c.in-Some-image.image.items)) is c.in_ok-ready.ensures.2 in
    record {
      opened =
          subst (λ (n : ℕ). HasOpened (λ image. image.items) c.args.config c.args.images.items
          (c.loop-image.yielded ++ c.in-Some-image.image ∷ [])
          c.next.new.self.rest.items n c.push_reserved.new.self.items)
          (sym (add-one c.loop-image.number))
          (more-opened opened c.in_ok-ready.ensures.0 (c.in_ok-ready.ensures.1 ∙ is) shows
          c.push_reserved.ensures.items);
      count = omega (arith, c.push_reserved.ensures.len, c.loop-image.invariant.count);
      room = omega (arith, c.push_reserved.ensures.capacity, c.loop-image.invariant.room);
    }

pub invariant_of-result : goal.invariant_of-result
invariant_of-result g c =
    let gone : c.loop-image.image-iterator.rest.items ≡ [] =
    none_left c.loop-image.image-iterator.rest.items c.loop-image.image-iterator.rest.len
    c.loop-image.image-iterator.rest.ok.0 c.in-None.ensures.steps.0 in
    let same : c.deref-2.result.now ≡ c.args.images.items = search rules in
    let read : c.deref.result.now ≡ c.args.images.items = search rules in
    let none =
    subst (λ xs. first_misfit c.args.config (image_of (map (λ image. image.items) xs)) ≡ None)
    same (sym c.in_ok-misfit.ensures ∙ c.in_default.is) in
    let are : AreImages c.args.config (map (λ image. image.items) c.args.images.items) =
    record {
      one_each = length-map c.args.images.items (λ image. image.items) ∙ c.requires;
      limits =
          subst (λ xs. All (All IsEntry) (map (λ image. image.items) xs))
          read c.recall_images.ensures;
    } in
    all-group (rw gone at c.loop-image.invariant.opened) are none

pub returns : goal.returns
returns g c =
    let gone : c.loop-image.image-iterator.rest.items ≡ [] =
    none_left c.loop-image.image-iterator.rest.items c.loop-image.image-iterator.rest.len
    c.loop-image.image-iterator.rest.ok.0 c.in-None.ensures.steps.0 in
    let same : c.deref-2.result.now ≡ c.args.images.items = search rules in
    let none =
    subst (λ xs. first_misfit c.args.config (image_of (map (λ image. image.items) xs)) ≡ None)
    same (sym c.in_ok-misfit.ensures ∙ c.in_default.is) in
    all-opens (rw gone at c.loop-image.invariant.opened) none
