-- A list that loses its last elements.
use Rattle.urb_stable.proofs.Common.{List, None, [], ap, arith, drop, length, refl, slice_get, suc, take}
use Rattle.urb_stable.proofs.Common.{zero, ℕ, ◌++◌, ◌-◌, ◌∷◌, ◌≡◌, ◌≤◌}

-- the list xs, and its first k elements
pub record Shortened {X : Type 0} (xs : List X) (k : ℕ) : Type 0 where
  -- as many elements as xs has are all of it
  pub whole : take (length xs) xs ≡ xs
  -- xs has no element after its last one
  pub past : slice_get xs (length xs) ≡ None
  -- xs is its first k elements, then the others
  pub all : xs ≡ take k (take k xs) ++ drop k xs
  -- that many others there are
  pub others : length (drop k xs) ≡ length xs - k
  -- the first k elements have no element at place k
  pub nothing : slice_get (take k xs) k ≡ None
  pub front : take k (take k xs) ≡ take k xs
  pub count : length (take k xs) ≡ k

whole_is : {X : Type 0} (xs : List X) → take (length xs) xs ≡ xs
whole_is [] = refl
whole_is (x ∷ xs) = ap (λ ys. x ∷ ys) (whole_is xs)

past_is : {X : Type 0} (xs : List X) → slice_get xs (length xs) ≡ None
past_is [] = refl
past_is (x ∷ xs) = past_is xs

-- what is read from a list and from its first k elements
pub shortened : {X : Type 0} (k : ℕ) (xs : List X) → k ≤ length xs → Shortened xs k
shortened zero xs fits = record {
  whole = whole_is xs;
  past = past_is xs;
  all = refl;
  others = omega arith;
  nothing = refl;
  front = refl;
  count = refl;
}
shortened (suc k) [] fits = absurd (omega (arith, fits))
shortened (suc k) (x ∷ xs) fits =
    let it = shortened k xs (omega (arith, fits)) in
    record {
      whole = whole_is (x ∷ xs);
      past = past_is (x ∷ xs);
      all = ap (λ ys. x ∷ ys) it.all;
      others = omega (arith, it.others);
      nothing = it.nothing;
      front = ap (λ ys. x ∷ ys) it.front;
      count = ap suc it.count;
    }
