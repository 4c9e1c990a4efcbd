-- The pairs that are due are in rising order. A pair is among them if the certificate of some node
-- was not heard.
use Rattle.urb_world.proofs.Common.{Bool, Content, Entry, Kept, Label, Limits, List, None, []}
use Rattle.urb_world.proofs.Common.{acked, and_from, ap, are_rising, arith, cases_Bool, cond_both}
use Rattle.urb_world.proofs.Common.{due_of, false, filter, has_pair, has_pair-behind}
use Rattle.urb_world.proofs.Common.{has_pair-first, has_pair-head, inserted, is_due, length}
use Rattle.urb_world.proofs.Common.{list_all, list_any, message_of, name_lt, no_pair, not, or_left}
use Rattle.urb_world.proofs.Common.{or_right, others, pairs-all, pend, refl, rising, same_message}
use Rattle.urb_world.proofs.Common.{same_name, same_name-true, subst, suc, sym, true, ℕ, ⊎_elim}
use Rattle.urb_world.proofs.Common.{◌&&◌, ◌||◌, ◌∙◌, ◌∷◌, ◌≡◌, ◌≤◌}
use Rattle.urb_world.proofs.ticks.Membership.{IsIn, in-filter, in-pairs, in-rising}
use Rattle.urb_names.proofs.OrderedPairs.{Rises, has_pair-inserted, rises-inserted}
use Rattle.urb_names.proofs.RisingPairs.{rising-push}

abbrev Pairs : Type 0
Pairs = List (Label × Content)

-- ---- in order

rises-test : (x : Label) (ps : Pairs)
    → ((y : Label) (m : Content) → has_pair ps y m ≡ true → name_lt x y ≡ true)
    → list_all (λ later. name_lt x later.0) ps ≡ true
rises-test x [] h = refl
rises-test x (p ∷ ps) h =
    and_from (name_lt x p.0) _ (h p.0 p.1 (has_pair-head p ps))
    (rises-test x ps (λ y m k. h y m (has_pair-behind p ps y m k)))

-- pairs whose names rise pass the test of rising order
pub rises-rising : (ps : Pairs) → Rises ps → are_rising ps ≡ true
rises-rising [] h = refl
rises-rising (p ∷ ps) h =
    and_from (list_all (λ later. name_lt p.0 later.0) ps) _ (rises-test p.0 ps h.0)
    (rises-rising ps h.1)

-- sorted pairs are the same
pub has_pair-rising : (ps : Pairs) (x : Label) (m : Content)
    → has_pair (rising ps) x m ≡ has_pair ps x m
has_pair-rising [] x m = refl
has_pair-rising (p ∷ ps) x m =
    has_pair-inserted p (rising ps) x m
    ∙ ap (λ b. (same_name p.0 x && same_message p.1 m) || b) (has_pair-rising ps x m)

has_pair-filter : (test : Label × Content → Bool) (ps : Pairs) (x : Label) (m : Content)
    → has_pair (filter test ps) x m ≡ true → has_pair ps x m ≡ true
has_pair-filter test [] x m h = h
has_pair-filter test (p ∷ ps) x m h =
    cond_both (test p) (p ∷ filter test ps) (filter test ps)
    (λ qs. has_pair qs x m ≡ true → has_pair (p ∷ ps) x m ≡ true)
    (λ _ h. ⊎_elim (λ e. subst (λ (y : Label). has_pair (p ∷ ps) y m ≡ true) e.0
    (subst (λ (o : Content). has_pair (p ∷ ps) p.0 o ≡ true) e.1 (has_pair-head p ps)))
    (λ e. has_pair-behind p ps x m (has_pair-filter test ps x m e))
    (has_pair-first p (filter test ps) x m h))
    (λ _ h. has_pair-behind p ps x m (has_pair-filter test ps x m h)) h

rises-filter : (test : Label × Content → Bool) (ps : Pairs) → Rises ps → Rises (filter test ps)
rises-filter test [] h = tt
rises-filter test (p ∷ ps) h =
    cond_both (test p) (p ∷ filter test ps) (filter test ps) Rises
    (λ _. (λ x m k. h.0 x m (has_pair-filter test ps x m k), rises-filter test ps h.1))
    (λ _. rises-filter test ps h.1)

-- the pairs of records that keep the rules
pub rises-records : (size : Limits) (images : ℕ → List Entry) (p : ℕ) (rs : List Entry)
    → Kept size images p [] rs → Rises (rising (pend rs))
rises-records size images p rs h =
    pairs-all size images p (λ ps. Rises (rising ps)) tt
    (λ e x m rises rules. subst Rises (sym (rising-push (pend e) (x, m) rules.fresh))
    (push e x m rules.fresh rises)) rs h
  where
    push : (e : List Entry) (x : Label) (m : Content) → message_of (pend e) x ≡ None
        → Rises (rising (pend e)) → Rises (inserted (x, m) (rising (pend e)))
    push e x m fresh rises = rises-inserted (x, m) (rising (pend e)) rises other
      where
        other : (y : Label) (o : Content) → has_pair (rising (pend e)) y o ≡ true
            → same_name y x ≡ false
        other y o k = ⊎_elim (λ f. absurd (none f)) (λ f. f) (cases_Bool (same_name y x))
          where
            none : same_name y x ≡ true → ⊥
            none f =
                no_pair (pend e) x o fresh (subst (λ (z : Label). has_pair (pend e) z o ≡ true)
                (same_name-true y x f) (sym (has_pair-rising (pend e) y o) ∙ k))

-- the pairs that are due at a node whose records meet the rules are in rising order
pub due-rises : (size : Limits) (images : ℕ → List Entry) (p : ℕ) (rs : List Entry)
    → Kept size images p [] rs → (n q : ℕ) (heard : List (Label × ℕ))
    → are_rising (due_of n q heard (rising (pend rs))) ≡ true
due-rises size images p rs h n q heard =
    rises-rising (due_of n q heard (rising (pend rs)))
    (rises-filter (λ pair. is_due n q heard pair.0) (rising (pend rs))
    (rises-records size images p rs h))

-- ---- how many

length-inserted : (p : Label × Content) (ps : Pairs) → length (inserted p ps) ≡ suc (length ps)
length-inserted p [] = refl
length-inserted p (q ∷ ps) =
    cond_both (name_lt q.0 p.0) (q ∷ inserted p ps) (p ∷ q ∷ ps)
    (λ qs. length qs ≡ suc (suc (length ps))) (λ _. ap suc (length-inserted p ps)) (λ _. refl)

-- putting pairs in rising order keeps their number
pub length-rising : (ps : Pairs) → length (rising ps) ≡ length ps
length-rising [] = refl
length-rising (p ∷ ps) = length-inserted p (rising ps) ∙ ap suc (length-rising ps)

length-fewer : (test : Label × Content → Bool) (ps : Pairs) → length (filter test ps) ≤ length ps
length-fewer test [] = omega arith
length-fewer test (p ∷ ps) =
    cond_both (test p) (p ∷ filter test ps) (filter test ps) (λ qs. length qs ≤ suc (length ps))
    (λ _. let l = length-fewer test ps in omega (arith, l))
    (λ _. let l = length-fewer test ps in omega (arith, l))

-- no more pairs are due than there are pairs
pub due-few : (n q : ℕ) (heard : List (Label × ℕ)) (ps : Pairs)
    → length (due_of n q heard (rising ps)) ≤ length ps
due-few n q heard ps =
    let l = length-fewer (λ pair. is_due n q heard pair.0) (rising ps) in
    omega (arith, l, length-rising ps)

-- ---- which

any-in : {A : Type 0} (test : A → Bool) (x : A) (xs : List A) → IsIn x xs → test x ≡ true
    → list_any test xs ≡ true
any-in test x [] h e = absurd h
any-in test x (y ∷ xs) h e =
    ⊎_elim (λ f. or_left (test y) _ (ap test f ∙ e))
    (λ f. or_right (test y) _ (any-in test x xs f e)) h

-- a pair is due if the certificate of some other node was not heard
pub in-due : (n p q : ℕ) (heard : List (Label × ℕ)) (ps : Pairs) (x : Label) (m : Content)
    → IsIn q (others n p) → acked heard x q ≡ false → has_pair ps x m ≡ true
    → IsIn (x, m) (due_of n p heard (rising ps))
in-due n p q heard ps x m is unheard h =
    in-filter (λ pair. is_due n p heard pair.0) (x, m) (rising ps)
    (any-in (λ i. not (acked heard x i)) q (others n p) is (ap not unheard))
    (in-rising (x, m) ps (in-pairs ps x m h))
