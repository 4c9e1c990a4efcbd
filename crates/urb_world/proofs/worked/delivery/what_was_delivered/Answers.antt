-- What wasn't delivered, wasn't ticked, or is due.
use Rattle.urb_world.proofs.Common.{Content, List, None, Option, Some, [], ap, arith, message, name}
use Rattle.urb_world.proofs.Common.{refl, ℕ, ◌∷◌, ◌≡◌}
use Rattle.urb_world.proofs.worked.delivery.what_was_delivered.Goals as goal

-- an empty list is no other
none-some : {A : Type 0} (x : A) (xs : List A) → [] ≡ x ∷ xs → ⊥
none-some x xs e = cc

some-none : {A : Type 0} (x : A) (xs : List A) → x ∷ xs ≡ [] → ⊥
some-none x xs e = cc

-- the payload of the first message
abbrev payload : List (Option Content) → List ℕ
payload (Some m ∷ ms) = m.payload
payload (None ∷ ms) = []
payload [] = []

pub returns-clause-nothing_by_one_of_four : goal.returns-clause-nothing_by_one_of_four
returns-clause-nothing_by_one_of_four c has = none-some (name 1 1) [] (has.names 1 refl)

pub returns-clause-nothing_by_one_of_seven : goal.returns-clause-nothing_by_one_of_seven
returns-clause-nothing_by_one_of_seven c has = none-some (name 1 1) [] (has.names 1 refl)

pub returns-clause-another_message : goal.returns-clause-another_message
returns-clause-another_message c has = some-none 97 [] (ap payload (has.messages 1 refl))

pub returns-clause-not_all_of_seven : goal.returns-clause-not_all_of_seven
returns-clause-not_all_of_seven c all = none-some (name 1 1) [] ((all 2 refl).names 1 refl)

pub returns-clause-not_what_was_stored : goal.returns-clause-not_what_was_stored
returns-clause-not_what_was_stored c ready =
    let begins = (ready 1 refl refl).names 1 refl in some-none (name 1 1) begins.0 begins.1

pub returns-clause-one_of_seven_is_due : goal.returns-clause-one_of_seven_is_due
returns-clause-one_of_seven_is_due c none =
    some-none (name 1 1, message 7 1 "") [] (none 1 refl)

pub returns-clause-once_is_not_twice : goal.returns-clause-once_is_not_twice
returns-clause-once_is_not_twice c twice = let low = twice 1 refl in omega (arith, low)
