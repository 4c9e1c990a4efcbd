-- What no SUBMIT does.
use Rattle.urb_show.proofs.Common.{Answer, Content, Err, List, Node, None, Ok, Some, [], ap, arith}
use Rattle.urb_show.proofs.Common.{m1, ℕ, ◌∷◌, ◌≡◌}
use Rattle.urb_show.proofs.worked.service_acts.no_submits.Goals as goal

lost : (xs : List Content) → [] ≡ m1 ∷ xs → ⊥
lost xs e = cc

some-none : {A : Type 0} (x : A) → Some x ≡ None → ⊥
some-none x e = cc

abbrev number_in : Answer → ℕ
number_in (Some (Ok number)) = number
number_in (Some (Err why)) = 0
number_in None = 0

pub returns-clause-written_again : goal.returns-clause-written_again
returns-clause-written_again c (answer, is) = some-none _ answer

pub returns-clause-another_number : goal.returns-clause-another_number
returns-clause-another_number c (answer, is) =
    let same : 1 ≡ 2 = ap (λ (a : Answer). number_in a) answer in omega (arith, same)

pub returns-clause-answered_and_lost : goal.returns-clause-answered_and_lost
returns-clause-answered_and_lost c (answer, is) = lost _ (ap (λ (n : Node). n.list) is)
