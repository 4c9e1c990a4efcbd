use Rattle.urb_folder.proofs.Common.{AreFound, OpensIn, Some, ap, arith, length, slice_get, subst}
use Rattle.urb_folder.proofs.Common.{sym, written-back, ◌∙◌, ◌≡◌}
use Rattle.urb_folder.specs.internal.OpenedPlaces.{FailsAfter}
use Rattle.urb_folder.proofs.parallel.open_all.Goals as goal

pub find_each-requires-after_bounds : goal.find_each-requires-after_bounds
find_each-requires-after_bounds g c κs within =
    let held = g.D.NodeDisk.held in
    subst (λ them. AreFound (OpensIn g.D.Disk held) them) (sym c.as_mut_slice.ensures.value)
    c.in-Some.ensures.each

pub open_in_order-requires-clause-found : goal.open_in_order-requires-clause-found
open_in_order-requires-clause-found g c =
    λ place it there.
    let back =
    written-back c.in-Some.found.items c.as_mut_slice.result.now c.find_each.new.found
    c.in-Some.found.len c.in-Some.found.ok.0 c.as_mut_slice.ensures.value c.find_each.auto.found in
    c.find_each.ensures.each place it
    (subst (λ them. slice_get them place ≡ Some it) (c.as_mut_slice-2.ensures.value ∙ back) there)

pub returns-in-Some-open_in_order-clause-fault :
    goal.returns-in-Some-open_in_order-clause-fault
returns-in-Some-open_in_order-clause-fault g c =
    let back =
    written-back c.in-Some.found.items c.as_mut_slice.result.now c.find_each.new.found
    c.in-Some.found.len c.in-Some.found.ok.0 c.as_mut_slice.ensures.value c.find_each.auto.found in
    let all : length c.as_mut_slice-2.result.now ≡ c.args.count =
    ap length (c.as_mut_slice-2.ensures.value ∙ back)
    ∙ (c.find_each.ensures.count ∙ (c.as_mut_slice.ensures.len ∙ c.in-Some.ensures.count)) in (
      c.open_in_order.new.all.items,
      omega (arith, c.len-number.ensures, c.open_in_order.new.all.ok.0),
      subst (λ n. FailsAfter (OpensIn g.D.Disk
          g.D.NodeDisk.held) n c.open_in_order.new.all.items c.in-Some-open_in_order.fault) all
          c.in-Some-open_in_order.ensures,
    )
