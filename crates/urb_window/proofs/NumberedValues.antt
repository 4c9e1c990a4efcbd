-- Values without a gap and the pairs after them: what is at each place.
use Rattle.urb_window.proofs.Common.{AreOver, Bool, IsRow, List, None, Row, Some, [], ap, arith}
use Rattle.urb_window.proofs.Common.{cases_eq, cases_lt, cond, cond-false, cond-true, counted_from}
use Rattle.urb_window.proofs.Common.{eq-eqb, find, get_or, inl, inr, le-ltb, length, length-append}
use Rattle.urb_window.proofs.Common.{nat_lt, ne_eqb, numbered, option_map, pairs_of, prefix_len}
use Rattle.urb_window.proofs.Common.{refl, slice_get, subst, suc, sym, zero, ℕ, ◌++◌, ◌+◌, ◌-◌, ◌<◌}
use Rattle.urb_window.proofs.Common.{◌==◌, ◌^◌, ◌∙◌, ◌∷◌, ◌≡◌, ◌≤◌, ◌⊎◌}
use Rattle.std.proofs.lemmas.Bool.{lt-ltb}
use Rattle.urb_window.proofs.BinarySearches.{few_over, one_more, over_less}

module _ {V : Type 0} where
  -- numbered values are as many as the values
  pub length-counted : (first : ℕ) (low : List V) → length (counted_from first low) ≡ length low
  length-counted first [] = refl
  length-counted first (v ∷ vs) = ap suc (length-counted (suc first) vs)

  -- a row has as many pairs as its two parts have values
  pub length-pairs : (row : Row V) → length (pairs_of row) ≡ length row.low + length row.above
  length-pairs row =
      length-append (counted_from 1 row.low) row.above
      ∙ ap (λ (n : ℕ). n + length row.above) (length-counted 1 row.low)

  -- one more value without a gap is one more pair with the next number
  pub counted_push : (first : ℕ) (low : List V) (v : V) (rest : List (ℕ × V))
      → counted_from first (low ++ v ∷ []) ++ rest ≡ counted_from first low
      ++ ((first + length low, v) ∷ rest)
  counted_push first [] v rest =
      let here : first ≡ first + 0 = omega arith in ap (λ (n : ℕ). (n, v) ∷ rest) here
  counted_push first (w ∷ low) v rest =
      let next : suc first + length low ≡ first + suc (length low) = omega arith in
      ap (λ ps. (first, w) ∷ ps) (counted_push (suc first) low v rest
      ∙ ap (λ (n : ℕ). counted_from (suc first) low ++ ((n, v) ∷ rest)) next)

  -- the value of a number within the lower part is the one at its place there
  pub numbered_low : (first : ℕ) (low : List V) (rest : List (ℕ × V)) (n : ℕ) (d : V) → first ≤ n
      → n < first + length low → numbered (counted_from first low ++ rest) n ≡ Some
      (get_or low (n - first) d)
  numbered_low first [] rest n d l u = absurd (omega arith)
  numbered_low first (v ∷ vs) rest n d l u =
      at (cases_eq first n) (numbered_low (suc first) vs rest n d)
    where
      at : (first ≡ n) ⊎ (first ≡ n → ⊥)
          → (suc first ≤ n → n < suc first + length vs
          → numbered (counted_from (suc first) vs ++ rest) n ≡ Some (get_or vs (n - suc first) d))
          → numbered (counted_from first (v ∷ vs) ++ rest) n ≡ Some (get_or (v ∷ vs) (n - first) d)
      at (inl e) ih =
          let none : 0 ≡ n - first = omega arith in
          cond-true (first == n) (Some v) (numbered (counted_from (suc first) vs ++ rest) n)
          (eq-eqb first n e) ∙ ap (λ (i : ℕ). Some (get_or (v ∷ vs) i d)) none
      at (inr e) ih =
          let later : suc (n - suc first) ≡ n - first = omega arith in
          cond-false (first == n) (Some v) (numbered (counted_from (suc first) vs ++ rest) n)
          (ne_eqb first n e)
          ∙ (ih (omega arith) (omega arith) ∙ ap (λ (i : ℕ). Some (get_or (v ∷ vs) i d)) later)

  -- the value of a number after the lower part is the one in the upper part
  pub numbered_behind : (first : ℕ) (low : List V) (rest : List (ℕ × V)) (n : ℕ)
      → first + length low ≤ n → numbered (counted_from first low ++ rest) n ≡ numbered rest n
  numbered_behind first [] rest n l = refl
  numbered_behind first (v ∷ vs) rest n l =
      cond-false (first == n) (Some v) (numbered (counted_from (suc first) vs ++ rest) n)
      (ne_eqb first n (λ e. omega arith)) ∙ numbered_behind (suc first) vs rest n (omega arith)

  -- values numbered from after a number, and rising pairs after them, have rising numbers above it
  pub over_counted : (k : ℕ) (low : List V) (rest : List (ℕ × V)) → k + length low < 2 ^ 32
      → AreOver (k + length low) rest → AreOver k (counted_from (suc k) low ++ rest)
  over_counted k [] rest l o =
      subst (λ (n : ℕ). AreOver n rest) (let none : k + 0 ≡ k = omega arith in none) o
  over_counted k (v ∷ vs) rest l o = (
    omega arith,
    omega arith,
    over_counted (suc k) vs rest (omega arith)
        (subst (λ (n : ℕ). AreOver n rest)
        (let same : k + suc (length vs) ≡ suc k + length vs = omega arith in same) o),
  )

  -- at a place within the lower part stands the value there, with its number
  pub pair_low : (first : ℕ) (low : List V) (rest : List (ℕ × V)) (i : ℕ) (d : V) → i < length low
      → slice_get (counted_from first low ++ rest) i ≡ Some (first + i, get_or low i d)
  pair_low first [] rest i d l = absurd (omega arith)
  pair_low first (v ∷ vs) rest zero d l =
      let here : first ≡ first + 0 = omega arith in ap (λ (n : ℕ). Some (n, v)) here
  pair_low first (v ∷ vs) rest (suc i) d l =
      let next : suc first + i ≡ first + suc i = omega arith in
      pair_low (suc first) vs rest i d (omega arith) ∙ ap (λ (n : ℕ). Some (n, get_or vs i d)) next

  -- at a place after the lower part stands a pair of the upper part
  pub pair_behind : (first : ℕ) (low : List V) (rest : List (ℕ × V)) (i : ℕ) → length low ≤ i
      → slice_get (counted_from first low ++ rest) i ≡ slice_get rest (i - length low)
  pair_behind first [] rest i l = let same : i ≡ i - 0 = omega arith in ap (slice_get rest) same
  pair_behind first (v ∷ vs) rest zero l = absurd (omega arith)
  pair_behind first (v ∷ vs) rest (suc i) l =
      let same : i - length vs ≡ suc i - suc (length vs) = omega arith in
      pair_behind (suc first) vs rest i (omega arith) ∙ ap (slice_get rest) same

  -- if the lower part goes further, the first number after one is the next
  pub after_low : (first : ℕ) (low : List V) (rest : List (ℕ × V)) (n : ℕ) → first ≤ suc n
      → suc n < first + length low
      → option_map (λ p. p.0) (find (λ p. nat_lt n p.0) (counted_from first low ++ rest)) ≡ Some
      (suc n)
  after_low first [] rest n l u = absurd (omega arith)
  after_low first (v ∷ vs) rest n l u =
      at (cases_eq first (suc n)) (after_low (suc first) vs rest n)
    where
      at : (first ≡ suc n) ⊎ (first ≡ suc n → ⊥)
          → (suc first ≤ suc n → suc n < suc first + length vs
          → option_map (λ p. p.0) (find (λ p. nat_lt n p.0)
          (counted_from (suc first) vs ++ rest)) ≡ Some (suc n))
          → option_map (λ p. p.0) (find (λ p. nat_lt n p.0) (counted_from first (v ∷ vs) ++ rest))
          ≡ Some (suc n)
      at (inl e) ih =
          ap (option_map (λ (p : ℕ × V). p.0))
          (cond-true (nat_lt n first) (Some (first, v))
          (find (λ p. nat_lt n p.0) (counted_from (suc first) vs ++ rest))
          (lt-ltb n first (omega arith))) ∙ ap (λ (i : ℕ). Some i) e
      at (inr e) ih =
          ap (option_map (λ (p : ℕ × V). p.0))
          (cond-false (nat_lt n first) (Some (first, v))
          (find (λ p. nat_lt n p.0) (counted_from (suc first) vs ++ rest))
          (le-ltb n first (omega arith)))
          ∙ ih (omega arith) (omega arith)

  -- after the lower part only the pairs above matter
  pub after_behind : (first : ℕ) (low : List V) (rest : List (ℕ × V)) (n : ℕ)
      → first + length low ≤ suc n → find (λ p. nat_lt n p.0) (counted_from first low ++ rest)
      ≡ find (λ p. nat_lt n p.0) rest
  after_behind first [] rest n l = refl
  after_behind first (v ∷ vs) rest n l =
      cond-false (nat_lt n first) (Some (first, v))
      (find (λ p. nat_lt n p.0) (counted_from (suc first) vs ++ rest))
      (le-ltb n first (omega arith)) ∙ after_behind (suc first) vs rest n (omega arith)

  -- the first pair with a greater number is at the place of the next number
  pub after_place : (pairs : List (ℕ × V)) (n : ℕ)
      → find (λ p. nat_lt n p.0) pairs ≡ slice_get pairs
      (prefix_len (λ p. nat_lt p.0 (suc n)) pairs)
  after_place [] n = refl
  after_place (p ∷ ps) n = at (cases_lt n p.0) (after_place ps n)
    where
      at : (n < p.0) ⊎ (p.0 ≤ n) → find (λ q. nat_lt n q.0) ps ≡ slice_get ps
          (prefix_len (λ q. nat_lt q.0 (suc n)) ps)
          → find (λ q. nat_lt n q.0) (p ∷ ps) ≡ slice_get (p ∷ ps)
          (prefix_len (λ q. nat_lt q.0 (suc n)) (p ∷ ps))
      at (inl l) ih =
          cond-true (nat_lt n p.0) (Some p) (find (λ q. nat_lt n q.0) ps) (lt-ltb n p.0 l)
          ∙ sym (ap (λ (b : Bool). slice_get (p ∷ ps)
          (cond b (1 + prefix_len (λ q. nat_lt q.0 (suc n)) ps) 0))
          (le-ltb p.0 (suc n) (omega arith)))
      at (inr l) ih =
          cond-false (nat_lt n p.0) (Some p) (find (λ q. nat_lt n q.0) ps) (le-ltb n p.0 l)
          ∙ (ih
          ∙ (ap (slice_get (p ∷ ps)) (one_more (prefix_len (λ q. nat_lt q.0 (suc n)) ps))
          ∙ sym (ap (λ (b : Bool). slice_get (p ∷ ps)
          (cond b (1 + prefix_len (λ q. nat_lt q.0 (suc n)) ps) 0))
          (lt-ltb p.0 (suc n) (omega arith)))))

  -- no pair is above the greatest number
  pub after_none : (k : ℕ) (pairs : List (ℕ × V)) (n : ℕ) → AreOver k pairs → 2 ^ 32 ≤ suc n
      → find (λ p. nat_lt n p.0) pairs ≡ None
  after_none k [] n o l = refl
  after_none k (p ∷ ps) n o l =
      let most : p.0 < 2 ^ 32 = o.1 in
      cond-false (nat_lt n p.0) (Some p) (find (λ q. nat_lt n q.0) ps) (le-ltb n p.0 (omega arith))
      ∙ after_none p.0 ps n o.2 l

-- all pairs of a row rise, and their numbers are greater than 0
pub pairs_over : {V : Type 0} (row : Row V) → IsRow row → AreOver 0 (pairs_of row)
pairs_over row h =
    let low : 0 + length row.low < 2 ^ 32 = omega (arith, h.low) in
    over_counted 0 row.low row.above low
    (over_less (0 + length row.low) (length row.low + 1) row.above (omega arith) h.above)

module _ {V : Type 0} where
  few_behind : (k : ℕ) (pairs : List (ℕ × V)) → AreOver k pairs → length pairs < 2 ^ 32
  few_behind k [] o = omega arith
  few_behind k (p ∷ ps) o =
      let most : p.0 < 2 ^ 32 = o.1 in let rest : p.0 + length ps < 2 ^ 32 =
      few_over p.0 ps o.1 o.2 in let first : k < p.0 = o.0 in omega arith

  -- there are fewer pairs above the gap than possible numbers
  pub few_above : (row : Row V) → IsRow row → length row.above < 2 ^ 32
  few_above row h = few_behind (length row.low + 1) row.above h.above

  -- the pairs above the gap rise, and their numbers are greater than 0
  pub above_over : (row : Row V) → IsRow row → AreOver 0 row.above
  above_over row h = over_less 0 (length row.low + 1) row.above (omega arith) h.above
