-- Pairs in rising order, and one more among them.
use Rattle.urb_pending.proofs.Common.{Bool, Content, Label, List, None, Some, [], and_from}
use Rattle.urb_pending.proofs.Common.{and_parts, ap, are_rising, arith, cond, cond-false, cond-true}
use Rattle.urb_pending.proofs.Common.{false, inl, inr, inserted, list_all, message_of, name_lt}
use Rattle.urb_pending.proofs.Common.{name_lt-trans, prefix_len, refl, same_name, subst, suc, sym}
use Rattle.urb_pending.proofs.Common.{true, ℕ, ◌+◌, ◌∙◌, ◌∷◌, ◌≡◌, ◌⊎◌}
use Rattle.std.specs.List.{insert}
use Rattle.urb_names.proofs.RisingPairs.{name_lt-one_way, name_lt-other_way}

-- a pair is inserted after those that come before it
pub inserted_at : (p : Label × Content) (ps : List (Label × Content))
    → inserted p ps ≡ insert ps (prefix_len (λ q. name_lt q.0 p.0) ps) p
inserted_at p [] = refl
inserted_at p (q ∷ qs) = step (inserted_at p qs) (name_lt q.0 p.0)
  where
    behind : (k : ℕ) → q ∷ insert qs k p ≡ insert (q ∷ qs) (1 + k) p
    behind k = ap (λ n. insert (q ∷ qs) n p) (next k)
      where
        next : (n : ℕ) → suc n ≡ 1 + n
        next n = omega arith

    step : inserted p qs ≡ insert qs (prefix_len (λ q. name_lt q.0 p.0) qs) p → (b : Bool)
        → cond b (q ∷ inserted p qs) (p ∷ q ∷ qs) ≡ insert (q ∷ qs)
        (cond b (1 + prefix_len (λ q. name_lt q.0 p.0) qs) 0) p
    step ih true = ap (λ ps. q ∷ ps) ih ∙ behind (prefix_len (λ q. name_lt q.0 p.0) qs)
    step ih false = refl

-- a test passed by each pair and by the new one is passed by all afterwards
pub all_inserted : (test : Label × Content → Bool) (p : Label × Content)
    (ps : List (Label × Content)) → test p ≡ true → list_all test ps ≡ true
    → list_all test (inserted p ps) ≡ true
all_inserted test p [] e h = and_from (test p) true e refl
all_inserted test p (q ∷ qs) e h =
    let parts = and_parts (test q) (list_all test qs) h in
    step parts (all_inserted test p qs e parts.1) (name_lt q.0 p.0)
  where
    step : (test q ≡ true) × (list_all test qs ≡ true) → list_all test (inserted p qs) ≡ true
        → (b : Bool) → list_all test (cond b (q ∷ inserted p qs) (p ∷ q ∷ qs)) ≡ true
    step parts ih true = and_from (test q) _ parts.0 ih
    step parts ih false = and_from (test p) _ e (and_from (test q) _ parts.0 parts.1)

-- what comes after a name comes after each earlier name
pub all_behind : (x y : Label) (ps : List (Label × Content)) → name_lt x y ≡ true
    → list_all (λ q. name_lt y q.0) ps ≡ true → list_all (λ q. name_lt x q.0) ps ≡ true
all_behind x y [] e h = refl
all_behind x y (q ∷ qs) e h =
    let parts = and_parts (name_lt y q.0) _ h in
    and_from (name_lt x q.0) _ (name_lt-trans x y q.0 e parts.0) (all_behind x y qs e parts.1)

-- sorted pairs stay sorted when a pair with a new name is inserted
pub rising_inserted : (p : Label × Content) (ps : List (Label × Content)) → are_rising ps ≡ true
    → message_of ps p.0 ≡ None → are_rising (inserted p ps) ≡ true
rising_inserted p [] h e = refl
rising_inserted p (q ∷ qs) h e =
    by_name (rising_inserted p qs
    (and_parts (list_all (λ r. name_lt q.0 r.0) qs) (are_rising qs) h).1) (same_name q.0 p.0) refl e
  where
    parts : (list_all (λ r. name_lt q.0 r.0) qs ≡ true) × (are_rising qs ≡ true)
    parts = and_parts (list_all (λ r. name_lt q.0 r.0) qs) (are_rising qs) h

    first : name_lt p.0 q.0 ≡ true → are_rising (p ∷ q ∷ qs) ≡ true
    first f = and_from _ _ (and_from (name_lt p.0 q.0) _ f (all_behind p.0 q.0 qs f parts.0)) h

    later : are_rising (inserted p qs) ≡ true → name_lt q.0 p.0 ≡ true
        → are_rising (q ∷ inserted p qs) ≡ true
    later ih f = and_from _ _ (all_inserted (λ r. name_lt q.0 r.0) p qs f parts.0) ih

    by_order : are_rising (inserted p qs) ≡ true
        → (name_lt q.0 p.0 ≡ true) ⊎ (name_lt p.0 q.0 ≡ true)
        → are_rising (cond (name_lt q.0 p.0) (q ∷ inserted p qs) (p ∷ q ∷ qs)) ≡ true
    by_order ih (inl f) =
        subst (λ ps. are_rising ps ≡ true)
        (sym (cond-true (name_lt q.0 p.0) (q ∷ inserted p qs) (p ∷ q ∷ qs) f)) (later ih f)
    by_order ih (inr f) =
        subst (λ ps. are_rising ps ≡ true)
        (sym (cond-false (name_lt q.0 p.0) (q ∷ inserted p qs) (p ∷ q ∷ qs)
        (name_lt-other_way p.0 q.0 f))) (first f)

    by_name : (message_of qs p.0 ≡ None → are_rising (inserted p qs) ≡ true) → (b : Bool)
        → same_name q.0 p.0 ≡ b → cond b (Some q.1) (message_of qs p.0) ≡ None
        → are_rising (inserted p (q ∷ qs)) ≡ true
    by_name ih true f g = absurd cc
    by_name ih false f g = by_order (ih g) (name_lt-one_way q.0 p.0 f)
