-- What goes on in new groups, and what is lost in others.
use Rattle.urb_world.proofs.Common.{Content, Entry, Label, List, None, Option, Some, [], ap, arith}
use Rattle.urb_world.proofs.Common.{certified, inl, message, name, name_of, refl, ℕ, ⊎_elim, ◌∷◌}
use Rattle.urb_world.proofs.Common.{◌≡◌}
use Rattle.urb_world.specs.internal.Examples.{pending}
use Rattle.urb_world.proofs.worked.moments.what_goes_on.Goals as goal

some-none : {A : Type 0} (x : A) (xs : List A) → x ∷ xs ≡ [] → ⊥
some-none x xs e = cc

none-some : {A : Type 0} (x : A) (xs : List A) → [] ≡ x ∷ xs → ⊥
none-some x xs e = cc

-- the payload of the first entry
abbrev entry_payload : List (Label × Option Content) → List ℕ
entry_payload ((x, Some m) ∷ entries) = m.payload
entry_payload ((x, None) ∷ entries) = []
entry_payload [] = []

-- the sender of the first record's name
abbrev first_sender : List Entry → ℕ
first_sender (r ∷ rs) = (name_of r).sender
first_sender [] = 0

differ : (m n : ℕ) → m ≡ n → m ≡ 1 → n ≡ 2 → ⊥
differ m n e one two = omega (arith, e, one, two)

pub returns-clause-records_in_another_order : goal.returns-clause-records_in_another_order
returns-clause-records_in_another_order c on =
    differ _ _ (ap first_sender (on.records 1).1) refl refl

pub returns-clause-new_groups : goal.returns-clause-new_groups
returns-clause-new_groups c size = record {
  records = λ p. ([], refl);
  broadcast = λ p. ([], refl);
  delivered = λ p. ([], refl);
  truth = λ packet said. said;
}

pub returns-clause-new_logs : goal.returns-clause-new_logs
returns-clause-new_logs c size p = ([], refl)

pub returns-clause-new_logs_agree : goal.returns-clause-new_logs_agree
returns-clause-new_logs_agree c size p q s = inl ([], refl)

pub returns-clause-a_broadcast_is_lost : goal.returns-clause-a_broadcast_is_lost
returns-clause-a_broadcast_is_lost c on =
    let begins = on.broadcast 1 in some-none (message 7 1 "") begins.0 begins.1

pub returns-clause-a_record_is_lost : goal.returns-clause-a_record_is_lost
returns-clause-a_record_is_lost c on =
    let begins = on.records 1 in some-none (pending 1 1) begins.0 begins.1

pub returns-clause-a_record_of_four_is_lost : goal.returns-clause-a_record_of_four_is_lost
returns-clause-a_record_of_four_is_lost c on =
    let begins = on.records 1 in some-none (certified 1 1) begins.0 begins.1

pub returns-clause-a_record_of_seven_is_lost : goal.returns-clause-a_record_of_seven_is_lost
returns-clause-a_record_of_seven_is_lost c on =
    let begins = on.records 1 in some-none (certified 1 1) begins.0 begins.1

pub returns-clause-a_delivery_of_four_is_lost : goal.returns-clause-a_delivery_of_four_is_lost
returns-clause-a_delivery_of_four_is_lost c grow =
    let begins = grow 1 in some-none (name 1 1, Some (message 7 1 "")) begins.0 begins.1

pub returns-clause-a_delivery_of_seven_is_lost : goal.returns-clause-a_delivery_of_seven_is_lost
returns-clause-a_delivery_of_seven_is_lost c grow =
    let begins = grow 1 in some-none (name 1 1, Some (message 7 1 "")) begins.0 begins.1

pub returns-clause-logs_of_four_disagree : goal.returns-clause-logs_of_four_disagree
returns-clause-logs_of_four_disagree c agree =
    ⊎_elim (λ begins. none-some 97 [] (ap entry_payload begins.1))
    (λ begins. some-none 97 [] (ap entry_payload begins.1)) (agree 1 1 1)

pub returns-clause-logs_of_seven_disagree : goal.returns-clause-logs_of_seven_disagree
returns-clause-logs_of_seven_disagree c agree =
    ⊎_elim (λ begins. none-some 97 [] (ap entry_payload begins.1))
    (λ begins. some-none 97 [] (ap entry_payload begins.1)) (agree 1 1 1)
