-- What a kill leaves of a batch of two records: both or none.
use Rattle.urb_turn.proofs.Common.{Entry, List, [], ap, arith, inl, inr, pending, refl, ℕ, ⊎_elim}
use Rattle.urb_turn.proofs.Common.{◌∷◌, ◌≡◌}
use Rattle.urb_stable.specs.Entries.{name_of}
use Rattle.urb_turn.proofs.worked.killed_batches.batches_that_a_kill_leaves.Goals as goal

some-none : {A : Type 0} (x : A) (xs : List A) → x ∷ xs ≡ [] → ⊥
some-none x xs e = cc

none-some : {A : Type 0} (x : A) (xs : List A) → [] ≡ x ∷ xs → ⊥
none-some x xs e = cc

one-two : (r s : Entry) → r ∷ [] ≡ r ∷ s ∷ [] → ⊥
one-two r s e = cc

-- the number in the name of the first record
abbrev first-number : List Entry → ℕ
first-number [] = 0
first-number (r ∷ records) = (name_of r).seq

-- the first pair isn't the second one
no-first : pending 1 1 ∷ [] ≡ pending 1 2 ∷ [] → ⊥
no-first e = let one_is_two : 1 ≡ 2 = ap first-number e in absurd (omega (arith, one_is_two))

pub returns-clause-none_of_two : goal.returns-clause-none_of_two
returns-clause-none_of_two c = inr (λ records is. inl is)

pub returns-clause-both : goal.returns-clause-both
returns-clause-both c = inl (λ records is. is)

pub returns-clause-none_behind_a_record : goal.returns-clause-none_behind_a_record
returns-clause-none_behind_a_record c = inr (λ records is. inl is)

pub returns-clause-not_the_first_alone : goal.returns-clause-not_the_first_alone
returns-clause-not_the_first_alone c (inl h) =
    one-two (pending 1 1) (pending 1 2) (h (pending 1 1 ∷ []) refl)
returns-clause-not_the_first_alone c (inr h) =
    ⊎_elim (λ e. some-none (pending 1 1) [] e) (λ e. one-two (pending 1 1) (pending 1 2) e)
    (h (pending 1 1 ∷ []) refl)

pub returns-clause-not_another_record : goal.returns-clause-not_another_record
returns-clause-not_another_record c (inl h) = no-first (h (pending 1 1 ∷ []) refl)
returns-clause-not_another_record c (inr h) =
    ⊎_elim (λ e. some-none (pending 1 1) [] e) (λ e. no-first e) (h (pending 1 1 ∷ []) refl)

pub returns-clause-not_without_the_nodes_record : goal.returns-clause-not_without_the_nodes_record
returns-clause-not_without_the_nodes_record c (inl h) =
    none-some (pending 1 1) (pending 1 2 ∷ []) (h [] refl)
returns-clause-not_without_the_nodes_record c (inr h) =
    ⊎_elim (λ e. none-some (pending 1 1) [] e)
    (λ e. none-some (pending 1 1) (pending 1 2 ∷ []) e) (h [] refl)
