-- Replacing the value of a number that has one.
use Rattle.urb_window.proofs.Common.{AreOver, Bool, IsSome, List, Option, Some, [], ap, arith}
use Rattle.urb_window.proofs.Common.{cases_Bool, cases_eq, cond, cond-false, cond-true}
use Rattle.urb_window.proofs.Common.{counted_from, eq-eqb, false, false≢true, get_or, holds_at, inl}
use Rattle.urb_window.proofs.Common.{inr, is_some, length, nat_lt, ne_eqb, numbered, prefix_len}
use Rattle.urb_window.proofs.Common.{refl, renumbered, slice_set, subst, suc, sym, true, ℕ, ◌++◌}
use Rattle.urb_window.proofs.Common.{◌+◌, ◌-◌, ◌<◌, ◌==◌, ◌∙◌, ◌∷◌, ◌≡◌, ◌≤◌, ◌⊎◌}
use Rattle.std.proofs.lemmas.Bool.{eqb-true, ltb-true}
use Rattle.urb_window.proofs.BinarySearches.{numbered_absent, numbered_found, one_more}
use Rattle.urb_window.proofs.NumberedValues.{numbered_behind}

module _ {V : Type 0} where
  abbrev place : ℕ → List (ℕ × V) → ℕ
  place n pairs = prefix_len (λ p. nat_lt p.0 n) pairs

  renumbered_other : (p : ℕ × V) (ps : List (ℕ × V)) (n : ℕ) (v : V) → (p.0 ≡ n → ⊥)
      → renumbered (p ∷ ps) n v ≡ p ∷ renumbered ps n v
  renumbered_other p ps n v e =
      ap (λ q. q ∷ renumbered ps n v) (cond-false (p.0 == n) (p.0, v) p (ne_eqb p.0 n e))

  renumbered_here : (p : ℕ × V) (ps : List (ℕ × V)) (n : ℕ) (v : V) → p.0 ≡ n
      → renumbered (p ∷ ps) n v ≡ (p.0, v) ∷ renumbered ps n v
  renumbered_here p ps n v e =
      ap (λ q. q ∷ renumbered ps n v) (cond-true (p.0 == n) (p.0, v) p (eq-eqb p.0 n e))

  -- nothing changes if all pairs are above the number
  renumbered_none : (k : ℕ) (pairs : List (ℕ × V)) (n : ℕ) (v : V) → AreOver k pairs → n ≤ k
      → renumbered pairs n v ≡ pairs
  renumbered_none k [] n v o l = refl
  renumbered_none k (p ∷ ps) n v o l =
      let first : k < p.0 = o.0 in
      renumbered_other p ps n v (λ e. omega arith)
      ∙ ap (λ qs. p ∷ qs) (renumbered_none p.0 ps n v o.2 (omega arith))

  -- replacing the value of a number within the lower part sets the value at its place
  pub renumbered_low : (first : ℕ) (low : List V) (rest : List (ℕ × V)) (n k : ℕ) (v : V)
      → first ≤ n → n < first + length low → AreOver k rest → first + length low ≤ suc k
      → renumbered (counted_from first low ++ rest) n v ≡ counted_from first
      (slice_set low (n - first) v) ++ rest
  renumbered_low first [] rest n k v l u o m = absurd (omega arith)
  renumbered_low first (w ∷ low) rest n k v l u o m =
      at (cases_eq first n) (renumbered_low (suc first) low rest n k v)
    where
      none : (f : ℕ) (vs : List V) → n < f → f + length vs ≤ suc k
          → renumbered (counted_from f vs ++ rest) n v ≡ counted_from f vs ++ rest
      none f [] l m = renumbered_none k rest n v o (omega arith)
      none f (x ∷ vs) l m =
          renumbered_other (f, x) (counted_from (suc f) vs ++ rest) n v (λ e. omega arith)
          ∙ ap (λ qs. (f, x) ∷ qs) (none (suc f) vs (omega arith) (omega arith))

      at : (first ≡ n) ⊎ (first ≡ n → ⊥)
          → (suc first ≤ n → n < suc first + length low → AreOver k rest
          → suc first + length low ≤ suc k
          → renumbered (counted_from (suc first) low ++ rest) n v ≡ counted_from (suc first)
          (slice_set low (n - suc first) v) ++ rest)
          → renumbered (counted_from first (w ∷ low) ++ rest) n v ≡ counted_from first
          (slice_set (w ∷ low) (n - first) v) ++ rest
      at (inl e) ih =
          let zeroth : 0 ≡ n - first = omega arith in
          renumbered_here (first, w) (counted_from (suc first) low ++ rest) n v e
          ∙ (ap (λ qs. (first, v) ∷ qs) (none (suc first) low (omega arith) (omega arith))
          ∙ ap (λ (i : ℕ). counted_from first (slice_set (w ∷ low) i v) ++ rest) zeroth)
      at (inr e) ih =
          let later : suc (n - suc first) ≡ n - first = omega arith in
          renumbered_other (first, w) (counted_from (suc first) low ++ rest) n v e
          ∙ (ap (λ qs. (first, w) ∷ qs) (ih (omega arith) (omega arith) o (omega arith))
          ∙ ap (λ (i : ℕ). counted_from first (slice_set (w ∷ low) i v) ++ rest) later)

  -- replacing the value of a number after the lower part replaces it in the upper part
  pub renumbered_behind : (first : ℕ) (low : List V) (rest : List (ℕ × V)) (n : ℕ) (v : V)
      → first + length low ≤ n → renumbered (counted_from first low ++ rest) n v
      ≡ counted_from first low ++ renumbered rest n v
  renumbered_behind first [] rest n v l = refl
  renumbered_behind first (w ∷ low) rest n v l =
      renumbered_other (first, w) (counted_from (suc first) low ++ rest) n v (λ e. omega arith)
      ∙ ap (λ qs. (first, w) ∷ qs) (renumbered_behind (suc first) low rest n v (omega arith))

  -- the pair at the number's place is the one that changes
  pub renumbered_place : (k : ℕ) (pairs : List (ℕ × V)) (n : ℕ) (v : V) (d : ℕ × V)
      → AreOver k pairs → holds_at pairs (prefix_len (λ p. nat_lt p.0 n) pairs) n ≡ true
      → renumbered pairs n v ≡ slice_set pairs (prefix_len (λ p. nat_lt p.0 n) pairs)
      ((get_or pairs (prefix_len (λ p. nat_lt p.0 n) pairs) d).0, v)
  renumbered_place k [] n v d o e = absurd (false≢true e)
  renumbered_place k (p ∷ ps) n v d o e =
      at (renumbered_place p.0 ps n v d o.2) (nat_lt p.0 n) refl e
    where
      at : (holds_at ps (place n ps) n ≡ true
          → renumbered ps n v ≡ slice_set ps (place n ps) ((get_or ps (place n ps) d).0, v))
          → (b : Bool) → nat_lt p.0 n ≡ b
          → holds_at (p ∷ ps) (cond b (1 + place n ps) 0) n ≡ true
          → renumbered (p ∷ ps) n v ≡ slice_set (p ∷ ps) (cond b (1 + place n ps) 0)
          ((get_or (p ∷ ps) (cond b (1 + place n ps) 0) d).0, v)
      at ih true f h =
          let less : p.0 < n = ltb-true p.0 n f in
          let held : holds_at ps (place n ps) n ≡ true =
          ap (λ (i : ℕ). holds_at (p ∷ ps) i n) (one_more (place n ps)) ∙ h in
          renumbered_other p ps n v (λ g. omega arith)
          ∙ (ap (λ qs. p ∷ qs) (ih held)
          ∙ ap (λ (i : ℕ). slice_set (p ∷ ps) i ((get_or (p ∷ ps) i d).0, v))
          (one_more (place n ps)))
      at ih false f h =
          let same : p.0 ≡ n = eqb-true p.0 n h in
          renumbered_here p ps n v same
          ∙ ap (λ qs. (p.0, v) ∷ qs) (renumbered_none p.0 ps n v o.2 (omega arith))

  -- replacing a value leaves the numbers rising
  pub over_renumbered : (k : ℕ) (pairs : List (ℕ × V)) (n : ℕ) (v : V) → AreOver k pairs
      → AreOver k (renumbered pairs n v)
  over_renumbered k [] n v o = tt
  over_renumbered k (p ∷ ps) n v o = at (cases_eq p.0 n) (over_renumbered p.0 ps n v o.2)
    where
      at : (p.0 ≡ n) ⊎ (p.0 ≡ n → ⊥) → AreOver p.0 (renumbered ps n v)
          → AreOver k (renumbered (p ∷ ps) n v)
      at (inl e) ih = subst (AreOver k) (sym (renumbered_here p ps n v e)) (o.0, o.1, ih)
      at (inr e) ih = subst (AreOver k) (sym (renumbered_other p ps n v e)) (o.0, o.1, ih)

  -- a number that has a value is at its place
  pub stands : (k : ℕ) (pairs : List (ℕ × V)) (n : ℕ) → AreOver k pairs → IsSome (numbered pairs n)
      → holds_at pairs (prefix_len (λ p. nat_lt p.0 n) pairs) n ≡ true
  stands k pairs n o some =
      at (cases_Bool (holds_at pairs (prefix_len (λ p. nat_lt p.0 n) pairs) n))
    where
      at : (holds_at pairs (prefix_len (λ p. nat_lt p.0 n) pairs) n ≡ true)
          ⊎ (holds_at pairs (prefix_len (λ p. nat_lt p.0 n) pairs) n ≡ false)
          → holds_at pairs (prefix_len (λ p. nat_lt p.0 n) pairs) n ≡ true
      at (inl e) = e
      at (inr e) = absurd (false≢true (sym (ap is_some (numbered_absent k pairs n o e)) ∙ some))

  -- the pair at the place of a number in the upper part
  pub record IsFound (low : List V) (above : List (ℕ × V)) (n : ℕ) (v : V) (i : ℕ)
      (d : ℕ × V) : Type 0 where
    -- the number's value is that of the pair found
    pub old : numbered (counted_from 1 low ++ above) n ≡ Some d.1
    -- setting that pair's value replaces the number's value in the upper part
    pub set : slice_set above i (d.0, v) ≡ renumbered above n v

  -- a number past the lower part that has a value is found at its place in the upper part
  pub finds : (low : List V) (above : List (ℕ × V)) (n : ℕ) (v : V) (i : ℕ) (d : ℕ × V)
      → AreOver 0 above → 1 + length low ≤ n → IsSome (numbered (counted_from 1 low ++ above) n)
      → i ≡ prefix_len (λ p. nat_lt p.0 n) above → d ≡ get_or above i d → IsFound low above n v i d
  finds low above n v i d over behind some at read =
      let there : numbered (counted_from 1 low ++ above) n ≡ numbered above n =
      numbered_behind 1 low above n behind in
      let held : holds_at above (place n above) n ≡ true =
      stands 0 above n over (subst (λ (o : Option V). is_some o ≡ true) there some) in
      let here : d ≡ get_or above (place n above) d = read ∙ ap (λ (j : ℕ). get_or above j d) at in
      record {
        old = there ∙ (numbered_found above n d held ∙ sym (ap (λ (p : ℕ × V). Some p.1) here));
        set =
            ap (λ (j : ℕ). slice_set above j (d.0, v)) at
            ∙ (ap (λ (p : ℕ × V). slice_set above (place n above) (p.0, v)) here
            ∙ sym (renumbered_place 0 above n v d over held));
      }
