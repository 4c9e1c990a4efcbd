-- Nothing opens from a misfit that a stop leaves.
use Rattle.urb_ahead_examples.proofs.Common.{Entry, List, MayLeaveAhead, None, Storing, World, []}
use Rattle.urb_ahead_examples.proofs.Common.{certified, image_of, inl, inr, limits, node_in, refl}
use Rattle.urb_ahead_examples.proofs.Common.{started, suc, zero, ℕ, ◌∷◌, ◌≡◌}
use Rattle.urb_ahead_examples.proofs.worked.surviving_tails.worlds_that_do_not_survive.Goals as goal

some-none : {A : Type 0} (x : A) (xs : List A) → x ∷ xs ≡ [] → ⊥
some-none x xs e = cc

-- images: the first has a certified message that nobody else holds
abbrev misfit : ℕ → List Entry
misfit p = image_of ((certified 1 1 ∷ []) ∷ []) p

-- four nodes that are storing it
abbrev four : World
four = record (started (limits 4 10)) { node = λ p. node_in (Storing (certified 1 1) None) [] }

held : (p : ℕ) → MayLeaveAhead four p (misfit p)
held zero = inl (inl refl)
held (suc zero) = inl (inr refl)
held (suc (suc p)) = inl (inl refl)

pub returns-clause-of_three : goal.returns-clause-of_three
returns-clause-of_three c survives =
    let fits = (survives misfit (λ p. inl refl)).fits in some-none _ [] fits

pub returns-clause-of_four : goal.returns-clause-of_four
returns-clause-of_four c survives =
    let fits = (survives misfit (λ p. inl refl)).fits in some-none _ [] fits

pub returns-clause-of_seven : goal.returns-clause-of_seven
returns-clause-of_seven c survives =
    let fits = (survives misfit (λ p. inl refl)).fits in some-none _ [] fits

pub returns-clause-held_in_four : goal.returns-clause-held_in_four
returns-clause-held_in_four c survives =
    let fits = (survives misfit held).fits in some-none _ [] fits
