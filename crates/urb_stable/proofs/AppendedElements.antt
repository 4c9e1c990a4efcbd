-- A list that gains one element, and a list with at most one more.
use Rattle.urb_stable.proofs.Common.{Entry, IsContents, List, None, Option, Some, [], add-one, ap}
use Rattle.urb_stable.proofs.Common.{arith, inr, length, refl, slice_get, slice_index_or, suc, sym}
use Rattle.urb_stable.proofs.Common.{take, take-suc, with_doubt, zero, ℕ, ◌++◌, ◌+◌, ◌<◌, ◌∙◌, ◌∷◌}
use Rattle.urb_stable.proofs.Common.{◌≡◌, ◌≤◌, ◌⊎◌}

-- what is read from ys, which is xs followed by r
pub record Kept {X : Type 0} (xs : List X) (r : X) (n : ℕ) (ys : List X) : Type 0 where
  -- the first n elements of xs are all of it
  pub before : take n xs ≡ xs
  -- xs has no element at place n
  pub nothing : slice_get xs n ≡ None
  -- ys begins with the elements of xs
  pub front : take n ys ≡ take n xs
  -- at place n, ys has r
  pub here : slice_get ys n ≡ Some r
  -- the first n + 1 elements of ys are those of xs, then r
  pub all : take (n + 1) ys ≡ take n xs ++ r ∷ []
  -- ys has no element after r
  pub past : slice_get ys (n + 1) ≡ None

kept_suc : {X : Type 0} (xs : List X) (r : X) → Kept xs r (length xs) (xs ++ r ∷ [])
kept_suc [] r = record {
  before = refl;
  nothing = refl;
  front = refl;
  here = refl;
  all =
      refl;
  past = refl;
}
kept_suc (x ∷ xs) r =
    let k = kept_suc xs r in
    record {
      before = ap (λ ys. x ∷ ys) k.before;
      nothing = k.nothing;
      front = ap (λ ys. x ∷ ys) k.front;
      here = k.here;
      all = rw add-one (ap (λ ys. x ∷ ys) (rw add-one at k.all));
      past = rw add-one (rw add-one at k.past);
    }

-- what is read from a list with one more element is the list, and that element after it
pub kept : {X : Type 0} (xs : List X) (r : X) (n : ℕ) (ys : List X) → n ≡ length xs
    → ys ≡ xs ++ r ∷ [] → Kept xs r n ys
kept xs r n ys e f = rw (e, f) (kept_suc xs r)

-- after a failure that kept the record, a stop leaves what was there, or that and the record
pub doubtful_stop : (xs : List Entry) (r : Entry) (n : ℕ) (ys : List Entry) → Kept xs r n ys
    → (records : List Entry) → IsContents (take n ys) (slice_get ys n) records
    → IsContents (take n xs) (slice_get xs n) records ⊎ (records ≡ take n xs ++ r ∷ [])
doubtful_stop xs r n ys k records h = rw k.nothing (rw (k.here, k.front) at h)

-- after the record was kept, a stop leaves what was there, or that and the record
pub certain_stop : (xs : List Entry) (r : Entry) (n : ℕ) (ys : List Entry) → Kept xs r n ys
    → (records : List Entry) → IsContents (take (n + 1) ys) (slice_get ys (n + 1)) records
    → IsContents (take n xs) (slice_get xs n) records ⊎ (records ≡ take n xs ++ r ∷ [])
certain_stop xs r n ys k records h = inr (rw (k.past, k.all) at h)

-- the elements up to the next one are those before it, then it
pub take-next : {X : Type 0} (xs : List X) (i : ℕ) (x : X) → i < length xs
    → x ≡ slice_index_or xs i x → take (i + 1) xs ≡ take i xs ++ x ∷ []
take-next xs i x l e =
    ap (λ n. take n xs) (one_more i)
    ∙ (take-suc xs i x l ∙ ap (λ z. take i xs ++ z ∷ []) (sym e))
  where
    one_more : (n : ℕ) → n + 1 ≡ suc n
    one_more n = omega arith

-- what is read from xs, which has at most one element after the first n
pub record Whole (xs : List Entry) (n : ℕ) : Type 0 where
  -- the elements up to the length are all of the list
  pub all : take (length xs) xs ≡ xs
  -- past the last element there is none
  pub nothing : slice_get xs (length xs) ≡ None
  -- the list is what storage with these certain records and this doubtful one may hold
  pub contents : IsContents (take n xs) (slice_get xs n) xs
  -- the list is the certain records, then the doubtful one if there is one
  pub whole : xs ≡ with_doubt (take n xs) (slice_get xs n)

end : {X : Type 0} (xs : List X) → (take (length xs) xs ≡ xs) × (slice_get xs (length xs) ≡ None)
end [] = (refl, refl)
end (x ∷ xs) = let k = end xs in (ap (λ ys. x ∷ ys) k.0, k.1)

more : (x : Entry) (front xs : List Entry) (doubt : Option Entry)
    → IsContents front doubt xs × (xs ≡ with_doubt front doubt)
    → IsContents (x ∷ front) doubt (x ∷ xs) × (x ∷ xs ≡ with_doubt (x ∷ front) doubt)
more x front xs None h = (ap (λ ys. x ∷ ys) h.0, ap (λ ys. x ∷ ys) h.1)
more x front xs (Some r) h = (inr (ap (λ ys. x ∷ ys) h.1), ap (λ ys. x ∷ ys) h.1)

one_behind : (xs : List Entry) (n : ℕ) → n ≤ length xs → length xs ≤ n + 1
    → IsContents (take n xs) (slice_get xs n) xs × (xs ≡ with_doubt (take n xs) (slice_get xs n))
one_behind [] zero le ge = (refl, refl)
one_behind [] (suc n) le ge = absurd (omega arith)
one_behind (x ∷ []) zero le ge = (inr refl, refl)
one_behind (x ∷ y ∷ xs) zero le ge = absurd (omega arith)
one_behind (x ∷ xs) (suc n) le ge =
    more x (take n xs) xs (slice_get xs n) (one_behind xs n (omega arith) (omega arith))

-- a list with at most one record after the certain ones is these records and the doubtful one, if
-- any
pub whole : (xs : List Entry) (n : ℕ) → n ≤ length xs → length xs ≤ n + 1 → Whole xs n
whole xs n le ge =
    let e = end xs in
    let o = one_behind xs n le ge in
    record { all = e.0; nothing = e.1; contents = o.0; whole = o.1 }
