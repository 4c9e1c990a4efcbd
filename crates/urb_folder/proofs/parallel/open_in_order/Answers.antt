use Rattle.urb_folder.proofs.Common.{AreOpened, IsFoundAt, Ok, OpensIn, Some, le_refl, length}
use Rattle.urb_folder.proofs.Common.{rules, slice_get, subst, sym, vec_capacity, vec_len, ◌+◌, ◌<◌}
use Rattle.urb_folder.proofs.Common.{◌∙◌, ◌≡◌, ◌≤◌}
use Rattle.std.proofs.lemmas.Option.{slice_get_read}
use Rattle.urb_folder.proofs.PlacesInOrder.{before, earlier, ended, has_room, none_yet, one_more}
use Rattle.urb_folder.proofs.PlacesInOrder.{unset}
use Rattle.urb_folder.proofs.parallel.open_in_order.Goals as goal

pub loop-place-init : goal.loop-place-init
loop-place-init g c = (
  none_yet _ c.args.all.now.items (search rules),
  λ at it _ there. c.requires.found at it there,
  search rules,
  search rules,
)

pub open_next-requires-clause-earlier : goal.open_next-requires-clause-earlier
open_next-requires-clause-earlier g c =
    let held = g.D.NodeDisk.held in
    subst (λ them. AreOpened (OpensIn _ held) (length them) them) (sym c.as_slice.ensures.value)
    (subst (λ n. AreOpened (OpensIn _ held) n c.loop-place.all.items)
    (sym c.loop-place.invariant.0.whole) c.loop-place.invariant.0)

pub open_next-requires-clause-found : goal.open_next-requires-clause-found
open_next-requires-clause-found g c =
    let held = g.D.NodeDisk.held in
    let same : c.replace-it.result ≡ c.index-found-place.result =
    c.replace-it.ensures.value ∙ sym c.index-found-place.is in
    let there : slice_get c.loop-place.found c.loop-place.place ≡ Some c.replace-it.result =
    subst (λ it. slice_get c.loop-place.found c.loop-place.place ≡ Some it) (sym same)
    (slice_get_read c.loop-place.found (length c.args.found.now) c.loop-place.place
    c.index-found-place.result (sym c.loop-place.auto.found) c.loop-place-test.true
    c.index-found-place.is) in
    let place : c.loop-place.place ≡ length c.as_slice.result.now =
    sym (subst (λ them. length them ≡ c.loop-place.place) (sym c.as_slice.ensures.value)
    c.loop-place.invariant.0.whole) in
    subst (λ n. IsFoundAt (OpensIn _ held) n c.replace-it.result) place
    (c.loop-place.invariant.1 c.loop-place.place c.replace-it.result (le_refl c.loop-place.place) there)

pub push_reserved-requires : goal.push_reserved-requires
push_reserved-requires g c =
    has_room (vec_len c.loop-place.all) c.loop-place.place (length c.args.found.now)
    (vec_capacity c.loop-place.all) (c.loop-place.all.ok.0 ∙ c.loop-place.invariant.0.whole)
    c.loop-place-test.true c.loop-place.invariant.3

pub returns-in-Err : goal.returns-in-Err
returns-in-Err g c =
    let held = g.D.NodeDisk.held in
    record {
      opened =
          subst (λ n. AreOpened (OpensIn _ held) n c.loop-place.all.items)
          (sym c.loop-place.invariant.0.whole) c.loop-place.invariant.0;
      within =
          subst (λ n. n < length c.args.found.now)
          (sym c.loop-place.invariant.0.whole) c.loop-place-test.true;
      fails = search rules;
    }

pub loop-place-preserved : goal.loop-place-preserved
loop-place-preserved g c =
    let held = g.D.NodeDisk.held in
    let place : length c.as_slice.result.now ≡ c.loop-place.place =
    subst (λ them. length them ≡ c.loop-place.place) (sym c.as_slice.ensures.value)
    c.loop-place.invariant.0.whole in
    let next = subst (λ n. OpensIn _ held n (Ok c.in-Ok.it)) place c.in-Ok.ensures in (
      subst (λ them. AreOpened (OpensIn _ held)
          (c.loop-place.place + 1) them) (sym c.push_reserved.ensures.items)
          (one_more _ c.loop-place.all.items c.in-Ok.it c.loop-place.place
          c.loop-place.invariant.0 next),
      λ at it behind there. c.loop-place.invariant.1 at it (earlier c.loop-place.place at behind)
          (unset c.loop-place.found c.loop-place.place at c.replace-it.new.dest it
          (before c.loop-place.place at behind) there),
      search rules,
      subst (λ n. length c.args.found.now ≤ n) (sym c.push_reserved.ensures.capacity)
          c.loop-place.invariant.3,
    )

pub returns : goal.returns
returns g c =
    let held = g.D.NodeDisk.held in
    let place : c.loop-place.place ≡ length c.args.found.now =
    ended c.loop-place.place (length c.args.found.now) c.loop-place-test.false
    c.loop-place.auto.place-end in
    subst (λ n. AreOpened (OpensIn _ held) n c.loop-place.all.items) place c.loop-place.invariant.0
