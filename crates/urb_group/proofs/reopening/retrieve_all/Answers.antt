use Rattle.urb_group.proofs.Common.{Err, Gives, Ok, [], add-one, ap, arith, inl, length, map, rules}
use Rattle.urb_group.proofs.Common.{slice_index_or, slice_set, subst, sym, ℕ, ◌++◌, ◌+◌, ◌<◌, ◌∙◌}
use Rattle.urb_group.proofs.Common.{◌∷◌, ◌≡◌}
use Rattle.std.proofs.lemmas.List.{map_push}
use Rattle.urb_group.proofs.stops.AskedStores.{HasAsked, next-asked, next-fails, none-asked}
use Rattle.urb_group.proofs.reopening.retrieve_all.Goals as goal

pub loop-store-init : goal.loop-store-init
loop-store-init g c =
    let empty : c.in_ok-images.images.items ≡ [] = search rules in
    record {
      asked =
          subst (λ images. HasAsked g.S.Stable c.args.stores.now c.args.stores.now
          (map (λ image. image.items) images) 0) (sym empty)
          (none-asked g.S.Stable c.args.stores.now);
      count = search rules;
      room = search rules;
    }

pub returns-in-Err : goal.returns-in-Err
returns-in-Err g c =
    let less : c.loop-store.store-index < length c.loop-store.stores =
    omega (arith, c.loop-store-test.true, c.loop-store.auto.stores) in
    let gives : Gives g.S.Stable (slice_index_or c.loop-store.stores c.loop-store.store-index
    c.store-item.result) (Err c.in-Err.fault) c.retrieve.new.self =
    record {
      answers = c.in-Err.ensures.answers;
      retrieved = c.in-Err.ensures.retrieved;
      settled = c.in-Err.ensures.settled;
      allowed = c.in-Err.ensures.allowed;
      stop = c.in-Err.ensures.stop;
      rest = c.in-Err.ensures.rest;
      counts = c.in-Err.ensures.counts;
      trust = c.in-Err.ensures.trust;
      refuses = c.in-Err.ensures.refuses;
      lasts = c.in-Err.ensures.lasts;
      ahead = c.in-Err.ensures.ahead;
    } in
    inl (
      c.in-Err.fault,
      next-fails g.S.Stable c.args.stores.now c.loop-store.stores
          (map (λ image. image.items) c.loop-store.images.items)
          c.loop-store.store-index c.loop-store.invariant.asked c.store-item.result
          c.retrieve.new.self c.in-Err.fault less c.store-item.is gives,
      c.refusal.ensures,
    )

pub loop-store-preserved : goal.loop-store-preserved
loop-store-preserved g c =
    let less : c.loop-store.store-index < length c.loop-store.stores =
    omega (arith, c.loop-store-test.true, c.loop-store.auto.stores) in
    let gives : Gives g.S.Stable (slice_index_or c.loop-store.stores c.loop-store.store-index
    c.store-item.result) (Ok c.in-Ok.image.items) c.retrieve.new.self =
    record {
      answers = c.in-Ok.ensures.answers;
      retrieved = c.in-Ok.ensures.retrieved;
      settled = c.in-Ok.ensures.settled;
      allowed = c.in-Ok.ensures.allowed;
      stop = c.in-Ok.ensures.stop;
      rest = c.in-Ok.ensures.rest;
      counts = c.in-Ok.ensures.counts;
      trust = c.in-Ok.ensures.trust;
      refuses = c.in-Ok.ensures.refuses;
      lasts = c.in-Ok.ensures.lasts;
      ahead = c.in-Ok.ensures.ahead;
    } in
    let more = c.push_reserved.ensures.items in
    let lists =
    ap (map (λ image. image.items)) more
    ∙ map_push (λ image. image.items) c.loop-store.images.items c.in-Ok.image in
    record {
      asked =
          subst (λ images. HasAsked g.S.Stable c.args.stores.now
          (slice_set c.loop-store.stores c.loop-store.store-index c.retrieve.new.self) images
          (c.loop-store.store-index + 1)) (sym lists)
          (subst (λ (n : ℕ). HasAsked g.S.Stable c.args.stores.now
          (slice_set c.loop-store.stores c.loop-store.store-index c.retrieve.new.self)
          (map (λ image. image.items) c.loop-store.images.items ++ c.in-Ok.image.items ∷ []) n)
          (sym (add-one c.loop-store.store-index))
          (next-asked g.S.Stable c.args.stores.now c.loop-store.stores
          (map (λ image. image.items) c.loop-store.images.items)
          c.loop-store.store-index c.loop-store.invariant.asked c.store-item.result
          c.retrieve.new.self c.in-Ok.image.items less c.store-item.is gives));
      count = omega (arith, c.push_reserved.ensures.len, c.loop-store.invariant.count);
      room = omega (arith, c.push_reserved.ensures.capacity, c.loop-store.invariant.room);
    }
