-- The element at a place of a list, from 0, and numbers in a row.
use Rattle.std.proofs.Common.{List, None, Some, [], ap, ap₂, arith, drop, length, refl, slice_get}
use Rattle.std.proofs.Common.{suc, zero, ℕ, ◌++◌, ◌+◌, ◌<◌, ◌∙◌, ◌∷◌, ◌≡◌, ◌≤◌}
use Rattle.urb_names.specs.Nodes.{numbers_from}

-- there is no element at a place past the end
pub get_none : {A : Type 0} (xs : List A) (j : ℕ) → length xs ≤ j → slice_get xs j ≡ None
get_none [] j h = refl
get_none (x ∷ xs) zero h = absurd (omega arith)
get_none (x ∷ xs) (suc j) h = get_none xs j (omega arith)

-- there is an element at each place within a list
pub get_some : {A : Type 0} (xs : List A) (j : ℕ) → j < length xs
    → (a : A) × (slice_get xs j ≡ Some a)
get_some [] j h = absurd (omega arith)
get_some (x ∷ xs) zero h = (x, refl)
get_some (x ∷ xs) (suc j) h = get_some xs j (omega arith)

-- at a place within the first of two lists stands the first list's element
pub get_front : {A : Type 0} (xs ys : List A) (j : ℕ) → j < length xs
    → slice_get (xs ++ ys) j ≡ slice_get xs j
get_front [] ys j h = absurd (omega arith)
get_front (x ∷ xs) ys zero h = refl
get_front (x ∷ xs) ys (suc j) h = get_front xs ys j (omega arith)

-- an element stays at its place when others are added after the list
pub get_stays : {A : Type 0} (xs ys : List A) (j : ℕ) (a : A) → slice_get xs j ≡ Some a
    → slice_get (xs ++ ys) j ≡ Some a
get_stays [] ys j a e = absurd cc
get_stays (x ∷ xs) ys zero a e = e
get_stays (x ∷ xs) ys (suc j) a e = get_stays xs ys j a e

-- one more element makes a list longer by one
pub one_longer : {A : Type 0} (xs : List A) (y : A) → length (xs ++ y ∷ []) ≡ suc (length xs)
one_longer [] y = refl
one_longer (x ∷ xs) y = ap suc (one_longer xs y)

-- the element that is put last stands at the place after all others
pub get_last : {A : Type 0} (xs : List A) (y : A) (j : ℕ) → j ≡ length xs
    → slice_get (xs ++ y ∷ []) j ≡ Some y
get_last [] y zero h = refl
get_last [] y (suc j) h = absurd (omega arith)
get_last (x ∷ xs) y zero h = absurd (omega arith)
get_last (x ∷ xs) y (suc j) h = get_last xs y j (omega arith)

-- past the element that is put last there is none
pub get_past : {A : Type 0} (xs : List A) (y : A) (j : ℕ) → length xs < j
    → slice_get (xs ++ y ∷ []) j ≡ None
get_past [] y zero h = absurd (omega arith)
get_past [] y (suc j) h = refl
get_past (x ∷ xs) y zero h = absurd (omega arith)
get_past (x ∷ xs) y (suc j) h = get_past xs y j (omega arith)

-- ---- the first messages

-- the list from a place on begins with the element at that place
pub drop_get : {A : Type 0} (xs : List A) (i : ℕ) (a : A) → slice_get xs i ≡ Some a
    → drop i xs ≡ a ∷ drop (suc i) xs
drop_get [] i a e = cc
drop_get (x ∷ xs) zero a e = let f : x ≡ a = cc in ap (λ y. y ∷ xs) f
drop_get (x ∷ xs) (suc i) a e = drop_get xs i a e

-- lists with the same element at each place are the same
pub same_at_each : {A : Type 0} (xs ys : List A) → ((j : ℕ) → slice_get xs j ≡ slice_get ys j)
    → xs ≡ ys
same_at_each [] [] h = refl
same_at_each [] (y ∷ ys) h = (let e = h 0 in cc)
same_at_each (x ∷ xs) [] h = (let e = h 0 in cc)
same_at_each (x ∷ xs) (y ∷ ys) h =
    (let e : Some x ≡ Some y = h 0 in let f : x ≡ y = cc in
    ap₂ (λ z zs. z ∷ zs) f (same_at_each xs ys (λ j. h (suc j))))

-- ---- numbers in a row

-- one number more in a row is put last
pub numbers_more : (first count : ℕ)
    → numbers_from first (suc count) ≡ numbers_from first count ++ (first + count) ∷ []
numbers_more first zero = ap (λ n. n ∷ []) (at first)
  where
    at : (n : ℕ) → n ≡ n + 0
    at n = omega arith
numbers_more first (suc count) =
    ap (λ ns. first ∷ ns) (numbers_more (suc first) count
    ∙ ap (λ n. numbers_from (suc first) count ++ n ∷ []) (at first count))
  where
    at : (a b : ℕ) → suc a + b ≡ a + suc b
    at a b = omega arith
