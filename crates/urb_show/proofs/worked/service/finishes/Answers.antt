use Rattle.std.proofs.Common.{List, [], ap, arith, length, refl, slice_index_or, ℕ, ◌∷◌, ◌≡◌, ◌≤◌}
use Rattle.urb_names.specs.Names.{name}
use Rattle.urb_show.proofs.worked.service.finishes.Goals as goal

pub returns-clause-accepted : goal.returns-clause-accepted
returns-clause-accepted c = (refl, refl, ([], tt, refl))

pub returns-clause-delivered : goal.returns-clause-delivered
returns-clause-delivered c =
    let one : 1 ≤ 2 = omega arith in
    let two : 2 ≤ 2 = omega arith in
    (refl, refl, (name 1 1 ∷ name 1 2 ∷ [], (refl, one, (refl, two, tt)), refl))

pub returns-clause-under_another_number : goal.returns-clause-under_another_number
returns-clause-under_another_number c h =
    let e : 1 ≡ 2 = ap (λ (xs : List ℕ). slice_index_or xs 0 0) h.1 in omega (arith, e)

pub returns-clause-without_its_answer : goal.returns-clause-without_its_answer
returns-clause-without_its_answer c h =
    let e : 0 ≡ 1 = ap (λ (xs : List ℕ). length xs) h.1 in omega (arith, e)
