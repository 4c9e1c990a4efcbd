use Rattle.std.proofs.Common.{arith, refl, ◌≡◌, ◌≤◌}
use Rattle.urb_show.proofs.worked.service.joins.Goals as goal

pub returns-clause-in_order : goal.returns-clause-in_order
returns-clause-in_order c =
    let one : 1 ≤ 2 = omega arith in
    let two : 2 ≤ 2 = omega arith in
    (refl, one, (refl, two, tt))

pub returns-clause-twice : goal.returns-clause-twice
returns-clause-twice c h = let e : 1 ≡ 2 = h.0 in omega (arith, e)

pub returns-clause-in_another_order : goal.returns-clause-in_another_order
returns-clause-in_another_order c h = let e : 2 ≡ 1 = h.0 in omega (arith, e)

pub returns-clause-with_a_gap : goal.returns-clause-with_a_gap
returns-clause-with_a_gap c h = let e : 2 ≡ 1 = h.0 in omega (arith, e)

pub returns-clause-on_no_list : goal.returns-clause-on_no_list
returns-clause-on_no_list c h = let e : 1 ≤ 0 = h.1 in omega (arith, e)

pub returns-clause-beyond_the_list : goal.returns-clause-beyond_the_list
returns-clause-beyond_the_list c h = let e : 3 ≤ 2 = h.1 in omega (arith, e)
