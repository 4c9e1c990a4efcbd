-- What isn't safe isn't promised.
use Rattle.urb_world.proofs.Common.{Bool, Content, Entry, List, Some, [], ap, arith, certified}
use Rattle.urb_world.proofs.Common.{false, has_pair, image_of, majority_passes, message, name, pend}
use Rattle.urb_world.proofs.Common.{refl, true, ℕ, ◌∷◌, ◌≡◌}
use Rattle.urb_world.proofs.worked.safe_worlds.broken_promises.Goals as goal

-- the message that is found is the one that too few nodes hold
too_few : (held : Content → Bool) (m : Content) → held (message 7 1 "") ≡ false
    → Some (message 7 1 "") ≡ Some m → held m ≡ true → ⊥
too_few held m few found majority = cc

-- whether a majority of n nodes with these images hold a message under the name 1.1
abbrev held_in : ℕ → List (List Entry) → Content → Bool
held_in n images m = majority_passes n (λ q. has_pair (pend (image_of images q)) (name 1 1) m)

pub returns-clause-of_three : goal.returns-clause-of_three
returns-clause-of_three c promised =
    let held = promised.safe.uniform 1 (name 1 1) refl in
    too_few (held_in 3 ((certified 1 1 ∷ []) ∷ [] ∷ [] ∷ [])) held.0 refl held.1 held.2

pub returns-clause-of_four : goal.returns-clause-of_four
returns-clause-of_four c promised =
    let held = promised.safe.uniform 1 (name 1 1) refl in
    too_few (held_in 4 ((certified 1 1 ∷ []) ∷ [] ∷ [] ∷ [] ∷ [])) held.0 refl held.1 held.2

pub returns-clause-of_seven : goal.returns-clause-of_seven
returns-clause-of_seven c promised =
    let held = promised.safe.uniform 1 (name 1 1) refl in
    too_few (held_in 7 ((certified 1 1 ∷ []) ∷ [] ∷ [] ∷ [] ∷ [] ∷ [] ∷ [] ∷ [])) held.0 refl held.1 held.2

pub returns-clause-of_two_messages : goal.returns-clause-of_two_messages
returns-clause-of_two_messages c promised =
    let e = promised.one_message 1 2 (name 1 1) (message 7 1 "") (message 7 2 "") refl refl in
    differ _ _ e refl refl
  where
    differ : (m o : Content) → m ≡ o → m.number ≡ 1 → o.number ≡ 2 → ⊥
    differ m o e first second =
        let same : m.number ≡ o.number = ap (λ (n : Content). n.number) e in
        omega (arith, same, first, second)
