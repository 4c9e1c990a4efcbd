-- Putting elements at their places in lists made of parts.
use Rattle.urb_window.proofs.Common.{AreOver, Bool, List, None, Some, [], and_from, and_parts, ap}
use Rattle.urb_window.proofs.Common.{arith, cases_Bool, cases_eq, cases_lt, cond-false, cond-true}
use Rattle.urb_window.proofs.Common.{counted_from, eq-eqb, false, inl, inr, le-ltb, length}
use Rattle.urb_window.proofs.Common.{list_all, nat_lt, ne_eqb, not, not-true, number_lt, numbered}
use Rattle.urb_window.proofs.Common.{placed, placed_behind, placed_front, refl, subst, suc, sym}
use Rattle.urb_window.proofs.Common.{true, ℕ, ◌++◌, ◌+◌, ◌<◌, ◌==◌, ◌^◌, ◌∙◌, ◌∷◌, ◌≡◌, ◌≤◌, ◌⊎◌}
use Rattle.std.proofs.lemmas.Bool.{lt-ltb}

module _ {X : Type 0} (before : X → X → Bool) (x : X) where
  -- after a part whose elements all come before it, an element goes to its place in the rest
  pub placed_after : (xs ys : List X) → list_all (λ y. before y x) xs ≡ true
      → placed before (xs ++ ys) x ≡ xs ++ placed before ys x
  placed_after [] ys h = refl
  placed_after (y ∷ xs) ys h =
      let parts = and_parts (before y x) (list_all (λ z. before z x) xs) h in
      placed_behind before x y (xs ++ ys) parts.0 ∙ ap (λ zs. y ∷ zs) (placed_after xs ys parts.1)

  placed_first : (ys : List X) → list_all (λ y. not (before y x)) ys ≡ true
      → placed before ys x ≡ x ∷ ys
  placed_first [] h = refl
  placed_first (y ∷ ys) h =
      placed_front before x y ys (not-true _
      (and_parts (not (before y x)) (list_all (λ z. not (before z x)) ys) h).0)

  -- before a part none of whose elements comes before it, an element goes to its place in the front
  pub placed_before : (xs ys : List X) → list_all (λ y. not (before y x)) ys ≡ true
      → placed before (xs ++ ys) x ≡ placed before xs x ++ ys
  placed_before [] ys h = placed_first ys h
  placed_before (y ∷ xs) ys h = at (cases_Bool (before y x)) (placed_before xs ys h)
    where
      at : (before y x ≡ true) ⊎ (before y x ≡ false)
          → placed before (xs ++ ys) x ≡ placed before xs x ++ ys
          → placed before (y ∷ (xs ++ ys)) x ≡ placed before (y ∷ xs) x ++ ys
      at (inl e) ih =
          placed_behind before x y (xs ++ ys) e
          ∙ (ap (λ zs. y ∷ zs) ih ∙ sym (ap (λ zs. zs ++ ys) (placed_behind before x y xs e)))
      at (inr e) ih =
          placed_front before x y (xs ++ ys) e
          ∙ sym (ap (λ zs. zs ++ ys) (placed_front before x y xs e))

module _ {V : Type 0} where
  low_before : (first : ℕ) (low : List V) (n : ℕ) (v : V) → first + length low ≤ n
      → list_all (λ p. number_lt p (n, v)) (counted_from first low) ≡ true
  low_before first [] n v l = refl
  low_before first (w ∷ low) n v l =
      and_from (nat_lt first n) _ (lt-ltb first n (omega arith))
      (low_before (suc first) low n v (omega arith))

  -- a number after the lower part goes to its place in the upper part
  pub placed_above : (first : ℕ) (low : List V) (above : List (ℕ × V)) (n : ℕ) (v : V)
      → first + length low ≤ n
      → placed number_lt (counted_from first low ++ above) (n, v) ≡ counted_from first low
      ++ placed number_lt above (n, v)
  placed_above first low above n v l =
      placed_after number_lt (n, v) (counted_from first low) above (low_before first low n v l)

  -- a pair goes before the pairs with greater numbers
  pub placed_under : (n : ℕ) (v : V) (above : List (ℕ × V)) → AreOver n above
      → placed number_lt above (n, v) ≡ (n, v) ∷ above
  placed_under n v [] o = refl
  placed_under n v (p ∷ ps) o =
      let first : n < p.0 = o.0 in placed_front number_lt (n, v) p ps (le-ltb p.0 n (omega arith))

  -- what is not among pairs is not the first one, nor among the others
  pub absent_parts : (p : ℕ × V) (ps : List (ℕ × V)) (n : ℕ) → numbered (p ∷ ps) n ≡ None
      → (p.0 ≡ n → ⊥) × (numbered ps n ≡ None)
  absent_parts p ps n e = at (cases_eq p.0 n)
    where
      at : (p.0 ≡ n) ⊎ (p.0 ≡ n → ⊥) → (p.0 ≡ n → ⊥) × (numbered ps n ≡ None)
      at (inl f) =
          let some : Some p.1 ≡ None = sym
          (cond-true (p.0 == n) (Some p.1) (numbered ps n) (eq-eqb p.0 n f)) ∙ e in absurd cc
      at (inr f) = (f, sym (cond-false (p.0 == n) (Some p.1) (numbered ps n) (ne_eqb p.0 n f)) ∙ e)

  -- a new number above the same bound keeps the pairs rising
  pub over_placed : (k : ℕ) (pairs : List (ℕ × V)) (n : ℕ) (v : V) → k < n → n < 2 ^ 32
      → numbered pairs n ≡ None → AreOver k pairs → AreOver k (placed number_lt pairs (n, v))
  over_placed k [] n v l u e o = (l, u, tt)
  over_placed k (p ∷ ps) n v l u e o =
      at (cases_lt p.0 n) (absent_parts p ps n e) (over_placed p.0 ps n v)
    where
      at : (p.0 < n) ⊎ (n ≤ p.0) → (p.0 ≡ n → ⊥) × (numbered ps n ≡ None)
          → (p.0 < n → n < 2 ^ 32 → numbered ps n ≡ None → AreOver p.0 ps
          → AreOver p.0 (placed number_lt ps (n, v)))
          → AreOver k (placed number_lt (p ∷ ps) (n, v))
      at (inl m) parts ih =
          subst (AreOver k) (sym (placed_behind number_lt (n, v) p ps (lt-ltb p.0 n m)))
          (o.0, o.1, ih m u parts.1 o.2)
      at (inr m) parts ih =
          let other : p.0 ≡ n → ⊥ = parts.0 in
          let over : n < p.0 = omega arith in
          subst (AreOver k) (sym (placed_front number_lt (n, v) p ps (le-ltb p.0 n m)))
          (l, u, (over, o.1, o.2))

  -- a number that is not in the row is after the lower part
  pub absent_low : (first : ℕ) (low : List V) (rest : List (ℕ × V)) (n : ℕ) → first ≤ n
      → numbered (counted_from first low ++ rest) n ≡ None → first + length low ≤ n
  absent_low first [] rest n l e = omega arith
  absent_low first (v ∷ low) rest n l e =
      let parts = absent_parts (first, v) (counted_from (suc first) low ++ rest) n e in
      let other : first ≡ n → ⊥ = parts.0 in
      let later : suc first + length low ≤ n =
      absent_low (suc first) low rest n (omega arith) parts.1 in
      omega arith
