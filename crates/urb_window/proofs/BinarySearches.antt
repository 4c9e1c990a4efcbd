-- What a binary search finds among pairs with rising numbers.
use Rattle.std.proofs.Common.{◌≡◌, ℕ, zero, suc, ◌+◌, ◌<◌, ◌≤◌, ◌^◌, Bool, true, false, cond, ◌==◌}
use Rattle.std.proofs.Common.{nat_lt, List, [], ◌∷◌, length, get_or, Some, None, refl, sym}
use Rattle.std.proofs.Common.{ap, ◌∙◌, inl, inr, ◌⊎◌, arith, ne_eqb}
use Rattle.std.specs.List.{prefix_len}
use Rattle.std.specs.List.Sorted.{IsPartitionedBy, IsPartitionPoint}
use Rattle.std.proofs.lemmas.Bool.{cases_lt, cond-false, cond-true, false≢true, lt-ltb, ltb-true}
use Rattle.urb_window.specs.internal.RowOperations.{AreOver, holds_at, numbered}

-- a partition point is the number of elements at the front
pub point_is : {X : Type 0} (test : X → Bool) (xs : List X) (i : ℕ) → i ≤ length xs
    → IsPartitionPoint (λ y. test y ≡ true) (λ y. test y ≡ false) xs i → i ≡ prefix_len test xs
point_is test [] i l h = omega arith
point_is test (y ∷ ys) zero l h =
    sym (ap (λ (b : Bool). cond b (1 + prefix_len test ys) 0) (h.1 0 y (omega arith) (omega arith)))
point_is test (y ∷ ys) (suc i) l h =
    let rest : i ≡ prefix_len test ys =
    point_is test ys i (omega arith) (
      λ k e m n. h.0 (suc k) e (omega arith) (omega arith),
      λ k e m n. h.1 (suc k) e (omega arith) (omega arith),
    ) in
    let one : suc i ≡ 1 + prefix_len test ys = omega arith in
    one ∙ sym (ap (λ (b : Bool). cond b (1 + prefix_len test ys) 0)
    (h.0 0 y (omega arith) (omega arith)))

-- the elements at the front that pass a test are at most as many as all
pub prefix_within : {X : Type 0} (test : X → Bool) (xs : List X) → prefix_len test xs ≤ length xs
prefix_within test [] = omega arith
prefix_within test (x ∷ xs) = at (test x) (prefix_within test xs)
  where
    at : (b : Bool) → prefix_len test xs ≤ length xs
        → cond b (1 + prefix_len test xs) 0 ≤ suc (length xs)
    at true h = omega arith
    at false h = omega arith

-- the number after a number is one plus it
pub one_more : (n : ℕ) → suc n ≡ 1 + n
one_more n = omega arith

module _ {V : Type 0} where
  -- what is greater than a number is greater than each smaller one
  pub over_less : (j k : ℕ) (pairs : List (ℕ × V)) → j ≤ k → AreOver k pairs → AreOver j pairs
  over_less j k [] h o = tt
  over_less j k (p ∷ ps) h o = let first : k < p.0 = o.0 in (omega arith, o.1, o.2)

  -- if the numbers of pairs rise from above a number, the one at each place is above it
  pub over_at : (k : ℕ) (pairs : List (ℕ × V)) (j : ℕ) (d : ℕ × V) → AreOver k pairs
      → j < length pairs → k < (get_or pairs j d).0
  over_at k [] j d o l = absurd (omega arith)
  over_at k (p ∷ ps) zero d o l = o.0
  over_at k (p ∷ ps) (suc j) d o l =
      let first : k < p.0 = o.0 in let rest : p.0 < (get_or ps j d).0 =
      over_at p.0 ps j d o.2 (omega arith) in omega arith

  -- the pairs below a number are at the front
  pub parted : (k : ℕ) (pairs : List (ℕ × V)) (n : ℕ) → AreOver k pairs
      → IsPartitionedBy (λ p. nat_lt p.0 n) pairs
  parted k [] n o i j d l m e = absurd (omega arith)
  parted k (p ∷ ps) n o zero zero d l m e = e
  parted k (p ∷ ps) n o zero (suc j) d l m e =
      let over : p.0 < (get_or ps j d).0 = over_at p.0 ps j d o.2 (omega arith) in
      let below : (get_or ps j d).0 < n = ltb-true (get_or ps j d).0 n e in
      lt-ltb p.0 n (omega arith)
  parted k (p ∷ ps) n o (suc i) zero d l m e = absurd (omega arith)
  parted k (p ∷ ps) n o (suc i) (suc j) d l m e =
      parted p.0 ps n o.2 i j d (omega arith) (omega arith) e

  -- if all pairs are above a number, none has it
  pub numbered_none : (k n : ℕ) (pairs : List (ℕ × V)) → AreOver k pairs → n ≤ k
      → numbered pairs n ≡ None
  numbered_none k n [] o l = refl
  numbered_none k n (p ∷ ps) o l =
      let first : k < p.0 = o.0 in
      cond-false (p.0 == n) (Some p.1) (numbered ps n) (ne_eqb p.0 n (λ e. omega arith))
      ∙ numbered_none p.0 n ps o.2 (omega arith)

  abbrev place : ℕ → List (ℕ × V) → ℕ
  place n pairs = prefix_len (λ p. nat_lt p.0 n) pairs

  -- if a number is at its place, so is its value
  pub numbered_found : (pairs : List (ℕ × V)) (n : ℕ) (d : ℕ × V)
      → holds_at pairs (prefix_len (λ p. nat_lt p.0 n) pairs) n ≡ true
      → numbered pairs n ≡ Some (get_or pairs (prefix_len (λ p. nat_lt p.0 n) pairs) d).1
  numbered_found [] n d e = absurd (false≢true e)
  numbered_found (p ∷ ps) n d e = at (numbered_found ps n d) (nat_lt p.0 n) refl e
    where
      at : (holds_at ps (place n ps) n ≡ true → numbered ps n ≡ Some (get_or ps (place n ps) d).1)
          → (b : Bool) → nat_lt p.0 n ≡ b
          → holds_at (p ∷ ps) (cond b (1 + place n ps) 0) n ≡ true
          → numbered (p ∷ ps) n ≡ Some (get_or (p ∷ ps) (cond b (1 + place n ps) 0) d).1
      at ih true f h =
          let less : p.0 < n = ltb-true p.0 n f in
          let held : holds_at ps (place n ps) n ≡ true =
          ap (λ (i : ℕ). holds_at (p ∷ ps) i n) (one_more (place n ps)) ∙ h in
          cond-false (p.0 == n) (Some p.1) (numbered ps n) (ne_eqb p.0 n (λ g. omega arith))
          ∙ (ih held ∙ ap (λ (i : ℕ). Some (get_or (p ∷ ps) i d).1) (one_more (place n ps)))
      at ih false f h = cond-true (p.0 == n) (Some p.1) (numbered ps n) h

  -- if the number isn't at its place, no pair has it
  pub numbered_absent : (k : ℕ) (pairs : List (ℕ × V)) (n : ℕ) → AreOver k pairs
      → holds_at pairs (prefix_len (λ p. nat_lt p.0 n) pairs) n ≡ false → numbered pairs n ≡ None
  numbered_absent k [] n o e = refl
  numbered_absent k (p ∷ ps) n o e =
      at (numbered_absent p.0 ps n o.2) (nat_lt p.0 n) refl e (cases_lt p.0 n)
    where
      at : (holds_at ps (place n ps) n ≡ false → numbered ps n ≡ None) → (b : Bool)
          → nat_lt p.0 n ≡ b
          → holds_at (p ∷ ps) (cond b (1 + place n ps) 0) n ≡ false → (p.0 < n) ⊎ (n ≤ p.0)
          → numbered (p ∷ ps) n ≡ None
      at ih true f h l =
          let less : p.0 < n = ltb-true p.0 n f in
          let missed : holds_at ps (place n ps) n ≡ false =
          ap (λ (i : ℕ). holds_at (p ∷ ps) i n) (one_more (place n ps)) ∙ h in
          cond-false (p.0 == n) (Some p.1) (numbered ps n) (ne_eqb p.0 n (λ g. omega arith))
          ∙ ih missed
      at ih false f h (inl l) = absurd (false≢true (sym f ∙ lt-ltb p.0 n l))
      at ih false f h (inr l) =
          cond-false (p.0 == n) (Some p.1) (numbered ps n) h ∙ numbered_none p.0 n ps o.2 l

  -- a number stands at a place within a list exactly if the pair there has it
  pub holds_there : (pairs : List (ℕ × V)) (i n : ℕ) (d : ℕ × V) → i < length pairs
      → holds_at pairs i n ≡ ((get_or pairs i d).0 == n)
  holds_there [] i n d l = absurd (omega arith)
  holds_there (p ∷ ps) zero n d l = refl
  holds_there (p ∷ ps) (suc i) n d l = holds_there ps i n d (omega arith)

  -- past the end of a list there is no pair with a number
  pub holds_beyond : (pairs : List (ℕ × V)) (i n : ℕ) → length pairs ≤ i
      → holds_at pairs i n ≡ false
  holds_beyond [] i n l = refl
  holds_beyond (p ∷ ps) zero n l = absurd (omega arith)
  holds_beyond (p ∷ ps) (suc i) n l = holds_beyond ps i n (omega arith)

  -- if a number is at a place, the place is within the list
  pub holds_within : (pairs : List (ℕ × V)) (i n : ℕ) → holds_at pairs i n ≡ true → i < length pairs
  holds_within pairs i n e = at (cases_lt i (length pairs))
    where
      at : (i < length pairs) ⊎ (length pairs ≤ i) → i < length pairs
      at (inl l) = l
      at (inr l) = absurd (false≢true (sym (holds_beyond pairs i n l) ∙ e))

  -- there are no more pairs than numbers below 2^32
  pub few_over : (k : ℕ) (pairs : List (ℕ × V)) → k < 2 ^ 32 → AreOver k pairs
      → k + length pairs < 2 ^ 32
  few_over k [] l o = omega arith
  few_over k (p ∷ ps) l o =
      let first : k < p.0 = o.0 in
      let rest : p.0 + length ps < 2 ^ 32 = few_over p.0 ps o.1 o.2 in
      omega arith
