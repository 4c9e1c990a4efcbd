-- Messages whose clients number them 1, 2, 3, ..: its client's number finds a message at its place.
use Rattle.std.proofs.Common.{Bool, List, None, Some, [], ap, arith, cond, count_by, eq-eqb}
use Rattle.std.proofs.Common.{eqb-true, false, find, inl, inr, length, ne_eqb, not, refl, slice_get}
use Rattle.std.proofs.Common.{subst, suc, sym, true, ℕ, ⊎_elim, ◌++◌, ◌+◌, ◌<◌, ◌==◌, ◌∙◌, ◌∷◌, ◌≡◌}
use Rattle.std.proofs.Common.{◌≤◌, ◌⊎◌}
use Rattle.std.proofs.lemmas.Bool.{and_from, and_parts, cases_order, cond-false, cond-true}
use Rattle.std.proofs.lemmas.Bool.{false_from_ne_true, false≢true, or_cases, or_parts}
use Rattle.std.proofs.lemmas.List.Folds.{find-append, list_any-append, position_or_len_push}
use Rattle.std.proofs.lemmas.List.Sums.{sum_by-append}
use Rattle.std.specs.List.{list_any, position_or_len}
use Rattle.std.specs.Option.{option_or}
use Rattle.urb_names.proofs.Places.{get_front, get_last, get_past}
use Rattle.urb_names.specs.LabelsAndContents.{Content}
use Rattle.urb_names.specs.Pairs.{is_numbered}

count-push : (p : Content → Bool) (ms : List Content) (m : Content)
    → count_by p (ms ++ m ∷ []) ≡ count_by p ms + cond (p m) 1 0
count-push p ms m =
    sum_by-append (λ o. cond (p o) 1 0) ms (m ∷ [])
    ∙ ap (λ n. count_by p ms + n) (at (cond (p m) 1 0))
  where
    at : (n : ℕ) → 0 + n ≡ n
    at n = omega arith

none_finds : (test : Content → Bool) (ms : List Content) → list_any test ms ≡ false
    → find test ms ≡ None
none_finds test [] e = refl
none_finds test (m ∷ ms) e =
    let parts = or_parts (test m) (list_any test ms) e in
    cond-false (test m) _ _ parts.0 ∙ none_finds test ms parts.1

none_places : (test : Content → Bool) (ms : List Content) → list_any test ms ≡ false
    → position_or_len test ms ≡ length ms
none_places test [] e = refl
none_places test (m ∷ ms) e =
    let parts = or_parts (test m) (list_any test ms) e in
    let rest : position_or_len test ms ≡ length ms = none_places test ms parts.1 in
    cond-true (not (test m)) _ _ (ap not parts.0) ∙ omega arith

-- Each client's numbers run 1, 2, 3, ..: no number is above the count, and each message is found by
-- its own number.
pub record Numbers (ms : List Content) : Type 0 where
  -- no number of a client exceeds how many of the messages are that client's
  pub bounded : (c k : ℕ) → list_any (is_numbered c k) ms ≡ true
      → k ≤ count_by (λ o. o.client == c) ms
  -- a message is found by its client and number, at its own place
  pub found : (j : ℕ) (m : Content) → slice_get ms j ≡ Some m
      → (find (is_numbered m.client m.number) ms ≡ Some m)
      × (position_or_len (is_numbered m.client m.number) ms ≡ j)

itself : (m : Content) → is_numbered m.client m.number m ≡ true
itself m =
    and_from (m.client == m.client) (m.number == m.number) (eq-eqb m.client m.client refl)
    (eq-eqb m.number m.number refl)

-- one more message with its client's next number leaves each client's numbers in a row
pub numbers-push : (ms : List Content) (m : Content) → Numbers ms
    → m.number ≡ suc (count_by (λ o. o.client == m.client) ms) → Numbers (ms ++ m ∷ [])
numbers-push ms m h e = record
    { bounded = bounded; found = λ j o g. found j o g (cases_order j (length ms)) }
  where
    bounded : (c k : ℕ) → list_any (is_numbered c k) (ms ++ m ∷ []) ≡ true
        → k ≤ count_by (λ o. o.client == c) (ms ++ m ∷ [])
    bounded c k a =
        ⊎_elim (λ f. let l = h.bounded c k f in let n = count-push (λ o. o.client == c) ms m in
        omega arith)
        (λ f. ⊎_elim (λ g. last (and_parts (m.client == c) (m.number == k) g))
        (λ g. absurd (false≢true g)) (or_cases (is_numbered c k m) false f))
        (or_cases (list_any (is_numbered c k) ms) (list_any (is_numbered c k) (m ∷ []))
        (sym (list_any-append (is_numbered c k) ms (m ∷ [])) ∙ a))
      where
        last : ((m.client == c) ≡ true) × ((m.number == k) ≡ true)
            → k ≤ count_by (λ o. o.client == c) (ms ++ m ∷ [])
        last parts =
            let same : m.client ≡ c = eqb-true m.client c parts.0 in
            let number : m.number ≡ k = eqb-true m.number k parts.1 in
            let n : count_by (λ o. o.client == c) (ms ++ m ∷ []) ≡ count_by
            (λ o. o.client == c) ms + 1 =
            count-push (λ o. o.client == c) ms m
            ∙ ap (λ (b : Bool). count_by (λ o. o.client == c) ms + cond b 1 0) parts.0 in
            let f : m.number ≡ suc (count_by (λ o. o.client == c) ms) =
            subst (λ (i : ℕ). m.number ≡ suc (count_by (λ o. o.client == i) ms)) same e in
            omega arith

    fresh : list_any (is_numbered m.client m.number) ms ≡ false
    fresh = false_from_ne_true _ (λ a. too_many (h.bounded m.client m.number a))
      where
        too_many : m.number ≤ count_by (λ o. o.client == m.client) ms → ⊥
        too_many l = omega arith

    found : (j : ℕ) (o : Content) → slice_get (ms ++ m ∷ []) j ≡ Some o
        → (j ≡ length ms) ⊎ ((j < length ms) ⊎ (length ms < j))
        → (find (is_numbered o.client o.number) (ms ++ m ∷ []) ≡ Some o)
        × (position_or_len (is_numbered o.client o.number) (ms ++ m ∷ []) ≡ j)
    found j o g (inl f) =
        let same : m ≡ o = (let w : Some m ≡ Some o = sym (get_last ms m j f) ∙ g in cc) in
        subst (λ (v : Content). (find (is_numbered v.client v.number) (ms ++ m ∷ []) ≡ Some v)
        × (position_or_len (is_numbered v.client v.number) (ms ++ m ∷ []) ≡ j)) same (
          find-append (is_numbered m.client m.number) ms (m ∷ [])
              ∙ (ap (λ w. option_or w (find (is_numbered m.client m.number) (m ∷ [])))
              (none_finds _ ms fresh) ∙ cond-true (is_numbered m.client m.number m) _ _ (itself m)),
          position_or_len_push (is_numbered m.client m.number) ms m
              ∙ (cond-true (position_or_len (is_numbered m.client m.number) ms == length ms) _ _
              (eq-eqb (position_or_len (is_numbered m.client m.number) ms) (length ms)
              (none_places _ ms fresh))
              ∙ (ap (λ (b : Bool). length ms + cond b 0 1) (itself m) ∙ omega arith)),
        )
    found j o g (inr (inl f)) =
        let old = h.found j o (sym (get_front ms (m ∷ []) j f) ∙ g) in (
          find-append (is_numbered o.client o.number) ms (m ∷ [])
              ∙ ap (λ w. option_or w (find (is_numbered o.client o.number) (m ∷ []))) old.0,
          position_or_len_push (is_numbered o.client o.number) ms m
              ∙ (cond-false (position_or_len (is_numbered o.client o.number) ms == length ms) _ _
              (ne_eqb (position_or_len (is_numbered o.client o.number) ms) (length ms)
              (λ w. (let v = old.1 in omega arith)))
              ∙ old.1),
        )
    found j o g (inr (inr f)) = (let w : None ≡ Some o = sym (get_past ms m j f) ∙ g in cc)
