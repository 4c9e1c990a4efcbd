-- What a stop may leave of a node whose store holds records ahead, and what it may not.
use Rattle.urb_world.proofs.Common.{Entry, IsAhead, List, MayFollow, [], certified, false≢true}
use Rattle.urb_world.proofs.Common.{image_of, inl, inr, keeps_d, limits, refl, started, subst, true}
use Rattle.urb_world.proofs.Common.{updated, ℕ, ◌∷◌, ◌≡◌}
use Rattle.urb_world.specs.World.{stored}
use Rattle.urb_world.specs.internal.Examples.{pending}
use Rattle.urb_world.proofs.stops.AheadWorlds.{ahead-begins}
use Rattle.urb_world.proofs.worked.tails.what_a_stop_leaves.Goals as goal

some-none : {A : Type 0} (x : A) (xs : List A) → x ∷ xs ≡ [] → ⊥
some-none x xs e = cc

none-some : {A : Type 0} (x : A) (xs : List A) → [] ≡ x ∷ xs → ⊥
none-some x xs e = cc

first-same : (r s : Entry) (rs ss : List Entry) → r ∷ rs ≡ s ∷ ss → r ≡ s
first-same r s rs ss e = cc

-- a new group of n nodes can't have a store with a certified message of its node ahead
misfit : (n : ℕ)
    → (keeps_d n (updated (stored (started (limits n 10))) 1 (certified 1 1 ∷ [])) []
    (certified 1 1) ≡ true → ⊥)
    → (tail : List Entry)
    → MayFollow (limits n 10) (stored (started (limits n 10))) 1 [] tail
    → IsAhead [] tail (certified 1 1 ∷ []) → ⊥
misfit n not [] may e = some-none (certified 1 1) [] e
misfit n not (r ∷ rest) may (inl e) = some-none (certified 1 1) [] e
misfit n not (r ∷ rest) may (inr ahead) =
    let begins = ahead-begins (r ∷ []) rest (certified 1 1 ∷ []) ahead in
    let same : r ≡ certified 1 1 = first-same r (certified 1 1) begins.0 [] begins.1 in
    not (subst (λ (s : Entry). keeps_d n
    (updated (stored (started (limits n 10))) 1 (s ∷ [])) [] s ≡ true) same may.0.d)

pub returns-clause-both : goal.returns-clause-both
returns-clause-both c =
    inr (pending 1 1 ∷ pending 1 2 ∷ [], search, inr (inr refl))

pub returns-clause-a_misfit_of_four : goal.returns-clause-a_misfit_of_four
returns-clause-a_misfit_of_four c (inl e) = some-none (certified 1 1) [] e
returns-clause-a_misfit_of_four c (inr (tail, may, ahead)) =
    misfit 4 (λ d. false≢true d) tail may ahead

pub returns-clause-a_misfit_of_seven : goal.returns-clause-a_misfit_of_seven
returns-clause-a_misfit_of_seven c (inl e) = some-none (certified 1 1) [] e
returns-clause-a_misfit_of_seven c (inr (tail, may, ahead)) =
    misfit 7 (λ d. false≢true d) tail may ahead

pub returns-clause-less_than_the_records : goal.returns-clause-less_than_the_records
returns-clause-less_than_the_records c (inl e) = none-some (pending 1 1) [] e
returns-clause-less_than_the_records c (inr (tail, may, ahead)) =
    let begins = ahead-begins (pending 1 1 ∷ []) tail [] ahead in
    some-none (pending 1 1) begins.0 begins.1

pub returns-clause-misfits_of_four_survive : goal.returns-clause-misfits_of_four_survive
returns-clause-misfits_of_four_survive c survives =
    let fits = (survives (image_of ((certified 1 1 ∷ []) ∷ [])) (λ p. inl refl)).fits in
    some-none _ [] fits

pub returns-clause-misfits_of_seven_survive : goal.returns-clause-misfits_of_seven_survive
returns-clause-misfits_of_seven_survive c survives =
    let fits = (survives (image_of ((certified 1 1 ∷ []) ∷ [])) (λ p. inl refl)).fits in
    some-none _ [] fits
