-- A stop inside a call that stores a tail leaves the whole tail or nothing of it.
use Rattle.urb_ahead_examples.proofs.Common.{AreShort, Content, Entry, IsContentsOrAll, List}
use Rattle.urb_ahead_examples.proofs.Common.{MayFollow, None, Pend, [], ap, arith, certified}
use Rattle.urb_ahead_examples.proofs.Common.{empty_memory, false≢true, filled, has_pair-head}
use Rattle.urb_ahead_examples.proofs.Common.{in_memory, inl, inr, length, limits, name, pend}
use Rattle.urb_ahead_examples.proofs.Common.{pending, refl, replicate, started, stored, subst, suc}
use Rattle.urb_ahead_examples.proofs.Common.{sym, with_record, zero, ℕ, ⊎_elim, ◌∙◌, ◌∷◌, ◌≡◌, ◌≤◌}
use Rattle.urb_group.specs.StoreContents.{LeavesTogether}
use Rattle.urb_ahead_examples.proofs.worked.stores_ahead.what_no_stop_leaves_inside_a_call.Goals as goal

some-none : (r : Entry) (rs : List Entry) → r ∷ rs ≡ [] → ⊥
some-none r rs e = cc

none-some : (r : Entry) (rs : List Entry) → [] ≡ r ∷ rs → ⊥
none-some r rs e = cc

one-two : (r s : Entry) → r ∷ [] ≡ r ∷ s ∷ [] → ⊥
one-two r s e = cc

-- if a stop leaves some record of a node that had none, it leaves the whole tail
whole : (tail : List Entry) (r : Entry) (rs : List Entry)
    → IsContentsOrAll tail [] None (r ∷ rs) → r ∷ rs ≡ tail
whole tail r rs (inl e) = absurd (some-none r rs e)
whole tail r rs (inr e) = e

-- a tail that may not follow
wrong-tail : (n : ℕ) (tail : List Entry) (r : Entry) (rs : List Entry)
    → (MayFollow (limits n 10) (stored (started (limits n 10))) 1 [] (r ∷ rs) → ⊥)
    → MayFollow (limits n 10) (stored (started (limits n 10))) 1 [] tail
    → IsContentsOrAll tail [] None (r ∷ rs) → ⊥
wrong-tail n tail r rs not may left =
    not (subst
    (λ (xs : List Entry). MayFollow (limits n 10) (stored (started (limits n 10))) 1 [] xs)
    (sym (whole tail r rs left)) may)

count-replicated : (count : ℕ) (byte : ℕ) → length (replicate count byte) ≡ count
count-replicated zero byte = refl
count-replicated (suc count) byte = ap suc (count-replicated count byte)

-- the message of a record that a stop leaves isn't too long
short-left : (tail : List Entry) (m : Content) → AreShort (pend tail)
    → IsContentsOrAll tail [] None (Pend (name 1 1) m ∷ []) → length m.payload ≤ 16384
short-left tail m short left =
    subst (λ (xs : List Entry). AreShort (pend xs)) (sym (whole tail (Pend (name 1 1) m) [] left))
    short (name 1 1) m (has_pair-head (name 1 1, m) [])

too-long : (n : ℕ)
    → LeavesTogether (in_memory (Unit {0})) (started (limits n 10)) 1
    (with_record (Pend (name 1 1) (filled 7 1 16385)) empty_memory) → ⊥
too-long n t =
    let short : 16385 ≤ 16384 =
    subst (λ (count : ℕ). count ≤ 16384) (count-replicated 16385 120)
    (short-left t.tail (filled 7 1 16385) t.short
    (t.only (Pend (name 1 1) (filled 7 1 16385) ∷ []) refl)) in
    absurd (omega (arith, short))

pub returns-clause-some_of_two : goal.returns-clause-some_of_two
returns-clause-some_of_two c t =
    one-two (pending 1 1) (pending 1 2)
    (whole t.tail (pending 1 1) [] (t.only (pending 1 1 ∷ []) (inr (inl refl)))
    ∙ sym (whole t.tail (pending 1 1) (pending 1 2 ∷ [])
    (t.only (pending 1 1 ∷ pending 1 2 ∷ []) (inr (inr refl)))))

pub returns-clause-the_first_or_both : goal.returns-clause-the_first_or_both
returns-clause-the_first_or_both c t =
    one-two (pending 1 1) (pending 1 2)
    (whole t.tail (pending 1 1) [] (t.only (pending 1 1 ∷ []) (inl refl))
    ∙ sym (whole t.tail (pending 1 1) (pending 1 2 ∷ [])
    (t.only (pending 1 1 ∷ pending 1 2 ∷ []) (inr refl))))

pub returns-clause-a_misfit_of_three : goal.returns-clause-a_misfit_of_three
returns-clause-a_misfit_of_three c t =
    wrong-tail 3 t.tail (certified 1 1) [] (λ may. false≢true may.0.d) t.may
    (t.only (certified 1 1 ∷ []) refl)

pub returns-clause-a_misfit_of_four : goal.returns-clause-a_misfit_of_four
returns-clause-a_misfit_of_four c t =
    wrong-tail 4 t.tail (certified 1 1) [] (λ may. false≢true may.0.d) t.may
    (t.only (certified 1 1 ∷ []) refl)

pub returns-clause-in_another_order : goal.returns-clause-in_another_order
returns-clause-in_another_order c t =
    wrong-tail 4 t.tail (pending 1 2) (pending 1 1 ∷ []) (λ may. false≢true may.0.b) t.may
    t.only.1

pub returns-clause-another_nodes_records : goal.returns-clause-another_nodes_records
returns-clause-another_nodes_records c t =
    wrong-tail 7 t.tail (pending 2 1) [] (λ may. false≢true may.0.c) t.may
    (t.only (pending 2 1 ∷ []) refl)

pub returns-clause-a_long_payload : goal.returns-clause-a_long_payload
returns-clause-a_long_payload c t = too-long 3 t

pub returns-clause-a_long_payload_of_four : goal.returns-clause-a_long_payload_of_four
returns-clause-a_long_payload_of_four c t = too-long 4 t

pub returns-clause-less_than_the_records : goal.returns-clause-less_than_the_records
returns-clause-less_than_the_records c t =
    ⊎_elim (λ e. none-some (pending 1 1) [] e) (λ e. none-some (pending 1 1) t.tail e)
    (t.only [] refl)
