-- What no stop leaves of a node: a record that may not follow, or less than the node's records.
use Rattle.urb_ahead_examples.proofs.Common.{Entry, List, MayFollow, MayJoin, MayLeaveAhead, World}
use Rattle.urb_ahead_examples.proofs.Common.{[], append-nil, append_assoc, certified, false≢true}
use Rattle.urb_ahead_examples.proofs.Common.{image_of, inl, inr, limits, opened, pending, started}
use Rattle.urb_ahead_examples.proofs.Common.{stored, subst, sym, ℕ, ◌++◌, ◌∙◌, ◌∷◌, ◌≡◌}
use Rattle.urb_world.specs.StoresAhead.{IsAhead}
use Rattle.urb_ahead_examples.proofs.worked.surviving_tails.what_no_stop_may_leave.Goals as goal

some-none : (r : Entry) (rs : List Entry) → r ∷ rs ≡ [] → ⊥
some-none r rs e = cc

none-some : (r : Entry) (rs : List Entry) → [] ≡ r ∷ rs → ⊥
none-some r rs e = cc

first-same : (r s : Entry) (rs ss : List Entry) → r ∷ rs ≡ s ∷ ss → r ≡ s
first-same r s rs ss e = cc

-- an image that is ahead begins with the records
begins : (records tail image : List Entry) → IsAhead records tail image
    → (more : List Entry) × (image ≡ records ++ more)
begins records [] image e = ([], e ∙ sym (append-nil records))
begins records (r ∷ tail) image (inl e) = ([], e ∙ sym (append-nil records))
begins records (r ∷ tail) image (inr ahead) =
    let rest = begins (records ++ r ∷ []) tail image ahead in
    (r ∷ rest.0, rest.1 ∙ append_assoc records (r ∷ []) rest.0)

-- the first record that is ahead of a new node is one that may join
abbrev Joins : ℕ → Entry → Type 0
Joins n r = MayJoin (limits n 10) (stored (started (limits n 10))) 1 [] r

joins : (n : ℕ) (r : Entry) (tail : List Entry)
    → MayFollow (limits n 10) (stored (started (limits n 10))) 1 [] tail
    → IsAhead [] tail (r ∷ []) → Joins n r
joins n r [] may e = absurd (some-none r [] e)
joins n r (s ∷ tail) may (inl e) = absurd (some-none r [] e)
joins n r (s ∷ tail) may (inr ahead) =
    let rest = begins (s ∷ []) tail (r ∷ []) ahead in
    subst (λ (t : Entry). Joins n t) (sym (first-same r s [] rest.0 rest.1)) may.0

no-misfit : (n : ℕ) (r : Entry) → (Joins n r → ⊥)
    → MayLeaveAhead (started (limits n 10)) 1 (r ∷ []) → ⊥
no-misfit n r not (inl e) = some-none r [] e
no-misfit n r not (inr (tail, may, ahead)) = not (joins n r tail may ahead)

-- a group of n nodes, whose first one has stored a record
abbrev of-one : ℕ → World
of-one n = opened (limits n 10) (image_of ((pending 1 1 ∷ []) ∷ []))

not-less : (n : ℕ) → MayLeaveAhead (of-one n) 1 [] → ⊥
not-less n (inl e) = none-some (pending 1 1) [] e
not-less n (inr (tail, may, ahead)) =
    let rest = begins (pending 1 1 ∷ []) tail [] ahead in none-some (pending 1 1) rest.0 rest.1

pub returns-clause-a_misfit_of_three : goal.returns-clause-a_misfit_of_three
returns-clause-a_misfit_of_three c left =
    no-misfit 3 (certified 1 1) (λ may. false≢true may.d) left

pub returns-clause-a_misfit_of_four : goal.returns-clause-a_misfit_of_four
returns-clause-a_misfit_of_four c left =
    no-misfit 4 (certified 1 1) (λ may. false≢true may.d) left

pub returns-clause-the_second_alone_of_six : goal.returns-clause-the_second_alone_of_six
returns-clause-the_second_alone_of_six c left =
    no-misfit 6 (pending 1 2) (λ may. false≢true may.b) left

pub returns-clause-a_pair_of_another : goal.returns-clause-a_pair_of_another
returns-clause-a_pair_of_another c left =
    no-misfit 4 (pending 2 1) (λ may. false≢true may.c) left

pub returns-clause-less_of_three : goal.returns-clause-less_of_three
returns-clause-less_of_three c left = not-less 3 left

pub returns-clause-less_of_four : goal.returns-clause-less_of_four
returns-clause-less_of_four c left = not-less 4 left

pub returns-clause-less_of_seven : goal.returns-clause-less_of_seven
returns-clause-less_of_seven c left = not-less 7 left
