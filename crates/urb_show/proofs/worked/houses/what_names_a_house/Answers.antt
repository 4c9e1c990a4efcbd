-- What names a house, and what doesn't.
use Rattle.urb_show.proofs.Common.{GroupView, List, Lists, [], ap, arith, list_at, refl, told, ◌∷◌}
use Rattle.urb_show.proofs.Common.{◌≡◌}
use Rattle.urb_show.proofs.worked.houses.what_names_a_house.Goals as goal

some-none : {A : Type 0} (x : A) (xs : List A) → x ∷ xs ≡ [] → ⊥
some-none x xs e = cc

pub returns-clause-as_opened : goal.returns-clause-as_opened
returns-clause-as_opened c additions events =
    record { book = refl; history = refl; base = refl; origin = refl }

pub returns-clause-another_book : goal.returns-clause-another_book
returns-clause-another_book c additions events apart h = apart h.book

pub returns-clause-another_history : goal.returns-clause-another_history
returns-clause-another_history c additions events apart h = apart h.history

pub returns-clause-other_lists : goal.returns-clause-other_lists
returns-clause-other_lists c additions events h =
    some-none (told 1 1 "a") [] (ap (λ (lists : Lists). list_at lists 0) h.base)

pub returns-clause-another_group : goal.returns-clause-another_group
returns-clause-another_group c additions events h =
    let one : 1 ≡ 4 = ap (λ (g : GroupView). g.size.n) h.origin in
    omega (arith, one)
