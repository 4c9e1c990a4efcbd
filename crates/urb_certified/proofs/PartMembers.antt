-- Which names the two parts hold.
use Rattle.urb_certified.proofs.Common.{Label, List, [], all_names, arith, both_ways, cases_eq}
use Rattle.urb_certified.proofs.Common.{false, false≢true, get_or, has_name, inl, inr, low_of, map}
use Rattle.urb_certified.proofs.Common.{name, or_cases, or_left, or_right, refl, same_name}
use Rattle.urb_certified.proofs.Common.{same_name-true, subst, suc, sym, true, zero, ℕ, ◌+◌, ◌-◌}
use Rattle.urb_certified.proofs.Common.{◌<◌, ◌||◌, ◌∙◌, ◌∷◌, ◌≡◌, ◌≤◌, ◌⊎◌}
use Rattle.std.proofs.lemmas.List.Folds.{list_any-append}
use Rattle.urb_names.specs.Nodes.{numbers_from}
use Rattle.urb_names.specs.Names.{names}
use Rattle.urb_names.proofs.LogRows.{has-row}
use Rattle.urb_certified.specs.Parts.{rows_from}

-- a name in the row of k numbers from a on
pub record IsInRow (s a k : ℕ) (y : Label) : Type 0 where
  -- the name is the sender's
  pub sender : y.sender ≡ s
  -- its number is at least the row's first
  pub first : a ≤ y.seq
  -- its number is before the row's end
  pub last : y.seq < a + k

-- a name in the rows of the senders from one on
pub record IsInRows (first : ℕ) (ks : List ℕ) (y : Label) : Type 0 where
  -- its sender is not before the first
  pub sender : first ≤ y.sender
  -- its number is at least 1
  pub seq : 1 ≤ y.seq
  -- its number is at most the last of its sender's row
  pub low : y.seq ≤ get_or ks (y.sender - first) 0

row_true : (s a k : ℕ) (y : Label) → has_name (map (name s) (numbers_from a k)) y ≡ true
    → IsInRow s a k y
row_true s a zero y e = absurd (false≢true e)
row_true s a (suc k) y e =
    at (row_true s (suc a) k y) (or_cases (same_name (name s a) y)
    (has_name (map (name s) (numbers_from (suc a) k)) y) e)
  where
    at : (has_name (map (name s) (numbers_from (suc a) k)) y ≡ true → IsInRow s (suc a) k y)
        → (same_name (name s a) y ≡ true)
        ⊎ (has_name (map (name s) (numbers_from (suc a) k)) y ≡ true) → IsInRow s a (suc k) y
    at ih (inl f) =
        subst (IsInRow s a (suc k)) (same_name-true (name s a) y f)
        (record { sender = refl; first = omega arith; last = omega arith })
    at ih (inr f) =
        let h = ih f in record {
          sender = h.sender;
          first = omega (arith, h.first);
          last =
              omega (arith, h.last);
        }

-- each name in the rows is one of a sender with a row, with a number within that row
pub rows_true : (first : ℕ) (ks : List ℕ) (y : Label) → has_name (rows_from first ks) y ≡ true
    → IsInRows first ks y
rows_true first [] y e = absurd (false≢true e)
rows_true first (k ∷ ks) y e =
    at (rows_true (suc first) ks y)
    (or_cases (has_name (names first k) y) (has_name (rows_from (suc first) ks) y)
    (sym (list_any-append (λ z. same_name z y) (names first k) (rows_from (suc first) ks)) ∙ e))
  where
    at : (has_name (rows_from (suc first) ks) y ≡ true → IsInRows (suc first) ks y)
        → (has_name (names first k) y ≡ true) ⊎ (has_name (rows_from (suc first) ks) y ≡ true)
        → IsInRows first (k ∷ ks) y
    at ih (inl f) =
        let h = row_true first 1 k y f in
        let here : y.sender - first ≡ 0 = omega (arith, h.sender) in
        record {
          sender = omega (arith, h.sender);
          seq = h.first;
          low =
              subst (λ i. y.seq ≤ get_or (k ∷ ks) i 0) (sym here)
              (let l : y.seq ≤ k = omega (arith, h.last) in l);
        }
    at ih (inr f) =
        let h = ih f in
        let later : suc (y.sender - suc first) ≡ y.sender - first = omega (arith, h.sender) in
        record {
          sender = omega (arith, h.sender);
          seq = h.seq;
          low = subst (λ i. y.seq ≤ get_or (k ∷ ks) i 0) later h.low;
        }

none_in : (n d : ℕ) → get_or [] n d ≡ d
none_in zero d = refl
none_in (suc n) d = refl

-- each name of a sender with a row, with a number within that row, is in the rows
pub rows_hold : (first : ℕ) (ks : List ℕ) (y : Label) → IsInRows first ks y
    → has_name (rows_from first ks) y ≡ true
rows_hold first [] y h =
    absurd (let none = none_in (y.sender - first) 0 in let some = h.seq in let low = h.low in
    omega arith)
rows_hold first (k ∷ ks) y h =
    list_any-append (λ z. same_name z y) (names first k) (rows_from (suc first) ks)
    ∙ at (rows_hold (suc first) ks y) (cases_eq first y.sender)
  where
    at : (IsInRows (suc first) ks y → has_name (rows_from (suc first) ks) y ≡ true)
        → (first ≡ y.sender) ⊎ (first ≡ y.sender → ⊥)
        → (has_name (names first k) y || has_name (rows_from (suc first) ks) y) ≡ true
    at ih (inl e) =
        let here : y.sender - first ≡ 0 = omega arith in
        let low : y.seq ≤ get_or (k ∷ ks) 0 0 =
        subst (λ i. y.seq ≤ get_or (k ∷ ks) i 0) here h.low in
        or_left (has_name (names first k) y) _
        (subst (λ s. has_name (names s k) y ≡ true) (sym e)
        (has-row y.sender 1 k y.seq h.seq (omega (arith, low))))
    at ih (inr e) =
        let from = h.sender in
        let behind : suc first ≤ y.sender = omega arith in
        let later : y.sender - first ≡ suc (y.sender - suc first) = omega arith in
        or_right (has_name (names first k) y) _
        (ih (record {
          sender = behind;
          seq = h.seq;
          low =
              subst (λ i. y.seq ≤ get_or (k ∷ ks) i 0) later h.low;
        }))

-- a name is in the upper part or in the lower part
pub all_true : (low : List ℕ) (above : List Label) (y : Label)
    → has_name (all_names low above) y ≡ true → (has_name above y ≡ true) ⊎ IsInRows 1 low y
all_true low above y e =
    at (or_cases (has_name above y) (has_name (rows_from 1 low) y)
    (sym (list_any-append (λ z. same_name z y) above (rows_from 1 low)) ∙ e))
  where
    at : (has_name above y ≡ true) ⊎ (has_name (rows_from 1 low) y ≡ true)
        → (has_name above y ≡ true) ⊎ IsInRows 1 low y
    at (inl f) = inl f
    at (inr f) = inr (rows_true 1 low y f)

-- a name in the upper part is among the names of both parts
pub all_above : (low : List ℕ) (above : List Label) (y : Label) → has_name above y ≡ true
    → has_name (all_names low above) y ≡ true
all_above low above y e =
    list_any-append (λ z. same_name z y) above (rows_from 1 low) ∙ or_left (has_name above y) _ e

-- a name in the rows of the lower part is among the names of both parts
pub all_low : (low : List ℕ) (above : List Label) (y : Label) → IsInRows 1 low y
    → has_name (all_names low above) y ≡ true
all_low low above y h =
    list_any-append (λ z. same_name z y) above (rows_from 1 low)
    ∙ or_right (has_name above y) _ (rows_hold 1 low y h)

-- after the lower part only the upper part matters
pub upper_only : (low : List ℕ) (above : List Label) (y : Label) → low_of low y.sender < y.seq
    → has_name above y ≡ has_name (all_names low above) y
upper_only low above y l = both_ways _ _ (all_above low above y) (λ e. at (all_true low above y e))
  where
    at : (has_name above y ≡ true) ⊎ IsInRows 1 low y → has_name above y ≡ true
    at (inl f) = f
    at (inr h) = let m : y.seq ≤ low_of low y.sender = h.low in absurd (omega arith)
