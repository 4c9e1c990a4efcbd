-- What a stop must not leave.
use Rattle.urb_world.proofs.Common.{Accepted, Content, Drafted, Label, List, None, Option, Same}
use Rattle.urb_world.proofs.Common.{Some, Submit, [], ap, certified, filled, image_of, limits}
use Rattle.urb_world.proofs.Common.{message, name, opened, refl, step, ℕ, ◌∷◌, ◌≡◌}
use Rattle.urb_world.specs.internal.Examples.{pending}
use Rattle.urb_world.proofs.worked.survivals.what_does_not_go_on.Goals as goal

some-none : {A : Type 0} (x : A) (xs : List A) → x ∷ xs ≡ [] → ⊥
some-none x xs e = cc

none-some : {A : Type 0} (x : A) (xs : List A) → [] ≡ x ∷ xs → ⊥
none-some x xs e = cc

-- a new group of n nodes drafts the message, so it doesn't accept it as a repeat
drafts_in_two : (step (opened (limits 2 10) (image_of [])) (Submit 1 (filled 7 1 1001))).0
    ≡ Same (Accepted (name 1 1)) → ⊥
unfolding step
drafts_in_two e = let drafted : Drafted (name 1 1) 1 ≡ Same (Accepted (name 1 1)) = e in cc

drafts_in_four : (step (opened (limits 4 10) (image_of [])) (Submit 1 (message 7 1 ""))).0
    ≡ Same (Accepted (name 1 1)) → ⊥
unfolding step
drafts_in_four e = let drafted : Drafted (name 1 1) 1 ≡ Same (Accepted (name 1 1)) = e in cc

drafts_in_seven : (step (opened (limits 7 10) (image_of [])) (Submit 1 (message 7 1 ""))).0
    ≡ Same (Accepted (name 1 1)) → ⊥
unfolding step
drafts_in_seven e = let drafted : Drafted (name 1 1) 1 ≡ Same (Accepted (name 1 1)) = e in cc

pub returns-clause-no_log_of_four : goal.returns-clause-no_log_of_four
returns-clause-no_log_of_four c on =
    let begins = on.delivered 1 in some-none (name 1 1) begins.0 begins.1

-- the payload of the first entry
abbrev payload : List (Label × Option Content) → List ℕ
payload ((x, Some m) ∷ entries) = m.payload
payload ((x, None) ∷ entries) = []
payload [] = []

pub returns-clause-another_message_of_another : goal.returns-clause-another_message_of_another
returns-clause-another_message_of_another c on =
    none-some 97 [] (ap payload (on.entries 2).1)

pub returns-clause-no_accepted_message : goal.returns-clause-no_accepted_message
returns-clause-no_accepted_message c on =
    drafts_in_four (on.again 1 (name 1 1) (message 7 1 "") refl refl refl)

pub returns-clause-no_accepted_message_of_seven : goal.returns-clause-no_accepted_message_of_seven
returns-clause-no_accepted_message_of_seven c on =
    drafts_in_seven (on.again 1 (name 1 1) (message 7 1 "") refl refl refl)

pub returns-clause-no_long_message : goal.returns-clause-no_long_message
returns-clause-no_long_message c on =
    drafts_in_two (on.again 1 (name 1 1) (filled 7 1 1001) refl refl refl)

pub returns-clause-misfits_of_four_survive : goal.returns-clause-misfits_of_four_survive
returns-clause-misfits_of_four_survive c survives =
    let fits = (survives (image_of ((certified 1 1 ∷ []) ∷ [])) (λ p. refl)).fits in
    some-none _ [] fits

pub returns-clause-misfits_of_seven_survive : goal.returns-clause-misfits_of_seven_survive
returns-clause-misfits_of_seven_survive c survives =
    let fits = (survives (image_of ((certified 1 1 ∷ []) ∷ [])) (λ p. refl)).fits in
    some-none _ [] fits

pub returns-clause-what_is_always_left : goal.returns-clause-what_is_always_left
returns-clause-what_is_always_left c always =
    none-some (pending 1 1) [] (always (λ p. []) (λ p. refl))
