-- Counts over images, as counts over the numbers of their nodes.
use Rattle.urb_stable.proofs.Common.{Bool, Entry, List, [], ap, arith, cond, count_by, false}
use Rattle.urb_stable.proofs.Common.{image_of, length, map, nodes, numbers_from, refl}
use Rattle.urb_stable.proofs.Common.{slice_index_or, suc, sym, true, zero, ℕ, ◌+◌, ◌∙◌, ◌∷◌, ◌≡◌}
use Rattle.std.proofs.lemmas.List.Recursion.{is_count_by}
use Rattle.std.proofs.lemmas.List.Sums.{sum_by-cons}

count-first : {A : Type 0} (test : A → Bool) (x : A) (xs : List A)
    → count_by test (x ∷ xs) ≡ cond (test x) (1 + count_by test xs) (count_by test xs)
count-first test x xs = sum_by-cons (λ y. cond (test y) 1 0) x xs ∙ at (test x) (count_by test xs)
  where
    at : (b : Bool) (n : ℕ) → cond b 1 0 + n ≡ cond b (1 + n) n
    at true n = refl
    at false n = omega arith

-- a count over numbers that are all one higher
count-shift : (test : ℕ → Bool) (first count : ℕ)
    → count_by test (numbers_from (suc first) count) ≡ count_by (λ q. test (suc q))
    (numbers_from first count)
count-shift test first zero = refl
count-shift test first (suc count) =
    count-first test (suc first) (numbers_from (suc (suc first)) count)
    ∙ (ap (λ n. cond (test (suc first)) (1 + n) n) (count-shift test (suc first) count)
    ∙ sym (count-first (λ q. test (suc q)) first (numbers_from (suc first) count)))

-- the number of images that pass is the number of nodes whose image passes
pub count-images : {A : Type 0} (items : A → List Entry) (test : List Entry → Bool)
    (images : List A) → count_by (λ image. test (items image)) images ≡ count_by
    (λ q. test (image_of (map items images) q)) (nodes (length images))
count-images {A = A} items test images =
    sym
    (count-shift (λ q. test (image_of (map items images) q)) 0 (length images)
    ∙ is_count_by (λ xs. count_by (λ j. test (slice_index_or (map items xs) j []))
    (numbers_from 0 (length xs))) (λ image. test (items image)) refl more images)
  where
    more : (x : A) (xs : List A) → count_by (λ j. test (slice_index_or (map items (x ∷ xs)) j []))
        (numbers_from 0 (length (x ∷ xs)))
        ≡ cond (test (items x)) (1 + count_by (λ j. test (slice_index_or (map items xs) j []))
        (numbers_from 0 (length xs)))
        (count_by (λ j. test (slice_index_or (map items xs) j [])) (numbers_from 0 (length xs)))
    more x xs =
        count-first (λ j. test (slice_index_or (map items (x ∷ xs)) j [])) 0
        (numbers_from 1 (length xs))
        ∙ ap (λ n. cond (test (items x)) (1 + n) n)
        (count-shift (λ j. test (slice_index_or (map items (x ∷ xs)) j [])) 0 (length xs))
