-- A stop leaves of a store that is ahead what it may leave of one node, or of a call.
use Rattle.urb_ahead_examples.proofs.Common.{Entry, IsContentsOrAll, IsOrStandsFor, LeavesAhead}
use Rattle.urb_ahead_examples.proofs.Common.{List, MayFollow, MayLeave, Node, None, [], certified}
use Rattle.urb_ahead_examples.proofs.Common.{empty_memory, false≢true, image_of, in_memory, inl}
use Rattle.urb_ahead_examples.proofs.Common.{inr, limits, opened, pending, refl, started, stored}
use Rattle.urb_ahead_examples.proofs.Common.{subst, sym, with_record, ℕ, ⊎_elim, ◌∙◌, ◌∷◌, ◌≡◌}
use Rattle.urb_ahead_examples.proofs.worked.stores_ahead.what_no_stop_of_stores_ahead_leaves.Goals as goal

some-none : (r : Entry) (rs : List Entry) → r ∷ rs ≡ [] → ⊥
some-none r rs e = cc

none-some : (r : Entry) (rs : List Entry) → [] ≡ r ∷ rs → ⊥
none-some r rs e = cc

one-two : (r s : Entry) → r ∷ [] ≡ r ∷ s ∷ [] → ⊥
one-two r s e = cc

whole : (tail : List Entry) (r : Entry) (rs : List Entry)
    → IsContentsOrAll tail [] None (r ∷ rs) → r ∷ rs ≡ tail
whole tail r rs (inl e) = absurd (some-none r rs e)
whole tail r rs (inr e) = e

-- Two images that a stop may leave of one node are equal: in a new group no record is held.
same-image : (n : ℕ) (node : Node) (xs ys : List Entry)
    → IsOrStandsFor (started (limits n 10)) 1 node → MayLeave node xs → MayLeave node ys → xs ≡ ys
same-image n node xs ys (inl e) one other =
    subst (λ (v : Node). MayLeave v xs) e one ∙ sym (subst (λ (v : Node). MayLeave v ys) e other)
same-image n node xs ys (inr s) one other =
    subst (λ (v : Node). MayLeave v xs) s.opened one
    ∙ sym (subst (λ (v : Node). MayLeave v ys) s.opened other)

-- a tail that may not follow
wrong-tail : (n : ℕ) (tail : List Entry)
    → (MayFollow (limits n 10) (stored (started (limits n 10))) 1 [] (certified 1 1 ∷ []) → ⊥)
    → MayFollow (limits n 10) (stored (started (limits n 10))) 1 [] tail
    → certified 1 1 ∷ [] ≡ tail → ⊥
wrong-tail n tail not may e =
    not (subst
    (λ (xs : List Entry). MayFollow (limits n 10) (stored (started (limits n 10))) 1 [] xs)
    (sym e) may)

wrong-node : (n : ℕ) (node : Node)
    → (MayFollow (limits n 10) (stored (started (limits n 10))) 1 [] (certified 1 1 ∷ []) → ⊥)
    → IsOrStandsFor (started (limits n 10)) 1 node → MayLeave node (certified 1 1 ∷ []) → ⊥
wrong-node n node not (inl e) left =
    some-none (certified 1 1) []
    (subst (λ (v : Node). MayLeave v (certified 1 1 ∷ [])) e left)
wrong-node n node not (inr s) left =
    wrong-tail n s.tail not s.may
    (subst (λ (v : Node). MayLeave v (certified 1 1 ∷ [])) s.opened left)

misfit : (n : ℕ)
    → (MayFollow (limits n 10) (stored (started (limits n 10))) 1 [] (certified 1 1 ∷ []) → ⊥)
    → LeavesAhead (in_memory (Unit {0})) (started (limits n 10)) 1
    (with_record (certified 1 1) empty_memory) → ⊥
misfit n not (inl t) =
    wrong-tail n t.tail not t.may
    (whole t.tail (certified 1 1) [] (t.only (certified 1 1 ∷ []) refl))
misfit n not (inr (node, is, left)) =
    wrong-node n node not is
    (left.may (certified 1 1 ∷ []) (left.only (certified 1 1 ∷ []) refl))

lost-node : (node : Node)
    → IsOrStandsFor (opened (limits 7 10) (image_of ((pending 1 1 ∷ []) ∷ []))) 1 node
    → MayLeave node [] → ⊥
lost-node node (inl e) left =
    none-some (pending 1 1) [] (subst (λ (v : Node). MayLeave v []) e left)
lost-node node (inr s) left =
    none-some (pending 1 1) s.tail (subst (λ (v : Node). MayLeave v []) s.opened left)

no-node : (node : Node) → IsOrStandsFor (started (limits 4 10)) 5 node
    → MayLeave node (pending 5 1 ∷ []) → ⊥
no-node node (inl e) left =
    some-none (pending 5 1) [] (subst (λ (v : Node). MayLeave v (pending 5 1 ∷ [])) e left)
no-node node (inr s) left = false≢true s.is

pub returns-clause-some_of_two : goal.returns-clause-some_of_two
returns-clause-some_of_two c (inl t) =
    one-two (pending 1 1) (pending 1 2)
    (whole t.tail (pending 1 1) [] (t.only (pending 1 1 ∷ []) (inr (inl refl)))
    ∙ sym (whole t.tail (pending 1 1) (pending 1 2 ∷ [])
    (t.only (pending 1 1 ∷ pending 1 2 ∷ []) (inr (inr refl)))))
returns-clause-some_of_two c (inr (node, is, left)) =
    one-two (pending 1 1) (pending 1 2)
    (same-image 4 node (pending 1 1 ∷ []) (pending 1 1 ∷ pending 1 2 ∷ []) is
    (left.may (pending 1 1 ∷ []) (left.only (pending 1 1 ∷ []) (inr (inl refl))))
    (left.may (pending 1 1 ∷ pending 1 2 ∷ [])
    (left.only (pending 1 1 ∷ pending 1 2 ∷ []) (inr (inr refl)))))

pub returns-clause-the_first_or_both : goal.returns-clause-the_first_or_both
returns-clause-the_first_or_both c (inl t) =
    one-two (pending 1 1) (pending 1 2)
    (whole t.tail (pending 1 1) [] (t.only (pending 1 1 ∷ []) (inl refl))
    ∙ sym (whole t.tail (pending 1 1) (pending 1 2 ∷ [])
    (t.only (pending 1 1 ∷ pending 1 2 ∷ []) (inr refl))))
returns-clause-the_first_or_both c (inr (node, is, left)) =
    one-two (pending 1 1) (pending 1 2)
    (same-image 4 node (pending 1 1 ∷ []) (pending 1 1 ∷ pending 1 2 ∷ []) is
    (left.may (pending 1 1 ∷ []) (left.only (pending 1 1 ∷ []) (inl refl)))
    (left.may (pending 1 1 ∷ pending 1 2 ∷ [])
    (left.only (pending 1 1 ∷ pending 1 2 ∷ []) (inr refl))))

pub returns-clause-a_misfit_of_three : goal.returns-clause-a_misfit_of_three
returns-clause-a_misfit_of_three c ahead = misfit 3 (λ may. false≢true may.0.d) ahead

pub returns-clause-a_misfit_of_four : goal.returns-clause-a_misfit_of_four
returns-clause-a_misfit_of_four c ahead = misfit 4 (λ may. false≢true may.0.d) ahead

pub returns-clause-a_record_of_no_node : goal.returns-clause-a_record_of_no_node
returns-clause-a_record_of_no_node c (inl t) = false≢true t.is
returns-clause-a_record_of_no_node c (inr (node, is, left)) =
    no-node node is (left.may (pending 5 1 ∷ []) (left.only (pending 5 1 ∷ []) refl))

pub returns-clause-less_than_the_records : goal.returns-clause-less_than_the_records
returns-clause-less_than_the_records c (inl t) =
    ⊎_elim (λ e. none-some (pending 1 1) [] e) (λ e. none-some (pending 1 1) t.tail e)
    (t.only [] refl)
returns-clause-less_than_the_records c (inr (node, is, left)) =
    lost-node node is (left.may [] (left.only [] refl))
