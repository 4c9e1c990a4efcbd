-- What no READ and no STATUS tells.
use Rattle.urb_show.proofs.Common.{Content, Label, List, Node, Option, State, [], ap, arith, m1}
use Rattle.urb_show.proofs.Common.{refl, ℕ, ◌∷◌, ◌≡◌}
use Rattle.urb_group.specs.declared.state.State.TheVariants as state
use Rattle.urb_show.proofs.worked.service_acts.no_reads.Goals as goal

lost : (xs : List Content) → [] ≡ m1 ∷ xs → ⊥
lost xs e = cc

down-ready : state.Down ≡ state.Ready → ⊥
down-ready e = cc

abbrev first_of : List (Label × Option Content) → ℕ
first_of ((x, m) ∷ entries) = x.seq
first_of [] = 0

pub returns-clause-both_entries : goal.returns-clause-both_entries
returns-clause-both_entries c = refl

pub returns-clause-another_entry : goal.returns-clause-another_entry
returns-clause-another_entry c (page, count, is) =
    let same : 1 ≡ 2 = ap (λ (l : List (Label × Option Content)). first_of l) page in
    omega (arith, same)

pub returns-clause-another_total : goal.returns-clause-another_total
returns-clause-another_total c (page, count, is) = let same : 1 ≡ 2 = count in omega (arith, same)

pub returns-clause-read_and_lost : goal.returns-clause-read_and_lost
returns-clause-read_and_lost c (page, count, is) = lost _ (ap (λ (n : Node). n.list) is)

pub returns-clause-another_state : goal.returns-clause-another_state
returns-clause-another_state c (word, count, logged, is) = down-ready word

pub returns-clause-another_count : goal.returns-clause-another_count
returns-clause-another_count c (word, count, logged, is) = let same : 1 ≡ 0 = count in omega (arith, same)

pub returns-clause-another_log : goal.returns-clause-another_log
returns-clause-another_log c (word, count, logged, is) = let same : 1 ≡ 0 = logged in omega (arith, same)

pub returns-clause-told_and_lost : goal.returns-clause-told_and_lost
returns-clause-told_and_lost c (word, count, logged, is) = lost _ (ap (λ (n : Node). n.list) is)
