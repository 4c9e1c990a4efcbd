-- Lists that come from numbers in a row, one number after another.
use Rattle.urb_feed.proofs.Common.{List, [], ap, append-nil, arith, flat_map, length, length-append}
use Rattle.urb_feed.proofs.Common.{numbers_from, numbers_more, refl, suc, sym, zero, ℕ, ◌*◌, ◌++◌}
use Rattle.urb_feed.proofs.Common.{◌+◌, ◌<◌, ◌∙◌, ◌∷◌, ◌≡◌, ◌≤◌}
use Rattle.std.proofs.lemmas.List.{flat_map_more}

module _ {A : Type 0} (f : ℕ → List A) where
  -- what comes of one more number
  pub more : (first count i j : ℕ) (old : List A) → i ≡ first + count → j ≡ count + 1
      → (old ++ flat_map f (numbers_from first count)) ++ f i
      ≡ old ++ flat_map f (numbers_from first j)
  more first count i j old e h =
      flat_map_more f old (numbers_from first count) i
      ∙ ap (λ ns. old ++ flat_map f ns) (sym (ap (numbers_from first) next
      ∙ (numbers_more first count
      ∙ ap (λ n. numbers_from first count ++ n ∷ []) (sym e))))
    where
      next : j ≡ suc count
      next = omega arith

  -- one more number of which nothing comes
  pub no_more : (first count i j : ℕ) (old : List A) → i ≡ first + count → j ≡ count + 1
      → f i ≡ [] → old ++ flat_map f (numbers_from first count)
      ≡ old ++ flat_map f (numbers_from first j)
  no_more first count i j old e h none =
      sym (ap (λ xs. (old ++ flat_map f (numbers_from first count)) ++ xs) none
      ∙ append-nil (old ++ flat_map f (numbers_from first count)))
      ∙ more first count i j old e h

  -- nothing comes of numbers of which none gives anything
  pub nothing : (first count : ℕ)
      → ((j : ℕ) → first ≤ j → j < first + count → f j ≡ [])
      → flat_map f (numbers_from first count) ≡ []
  nothing first zero none = refl
  nothing first (suc count) none =
      ap (λ xs. xs ++ flat_map f (numbers_from (suc first) count))
      (none first (omega arith) (omega arith))
      ∙ nothing (suc first) count (λ j l h. none j (omega arith) (omega arith))

  -- numbers before which some give nothing
  pub later : (first skipped count whole : ℕ) → whole ≡ skipped + count
      → ((j : ℕ) → first ≤ j → j < first + skipped → f j ≡ [])
      → flat_map f (numbers_from first whole) ≡ flat_map f (numbers_from (first + skipped) count)
  later first zero count whole e none =
      let same : whole ≡ count = omega arith in
      let here : first ≡ first + 0 = omega arith in
      ap (λ n. flat_map f (numbers_from first n)) same
      ∙ ap (λ n. flat_map f (numbers_from n count)) here
  later first (suc skipped) count zero e none = absurd (omega arith)
  later first (suc skipped) count (suc whole) e none =
      let there : suc first + skipped ≡ first + suc skipped = omega arith in
      ap (λ xs. xs ++ flat_map f (numbers_from (suc first) whole))
      (none first (omega arith) (omega arith))
      ∙ (later (suc first) skipped count whole (omega arith)
      (λ j l h. none j (omega arith) (omega arith))
      ∙ ap (λ n. flat_map f (numbers_from n count)) there)

  -- a bound on what comes of each number bounds what comes of all
  pub bounded : (most first count : ℕ) → ((j : ℕ) → length (f j) ≤ most)
      → length (flat_map f (numbers_from first count)) ≤ most * count
  bounded most first zero h = omega arith
  bounded most first (suc count) h =
      omega (
        arith,
        length-append (f first) (flat_map f (numbers_from (suc first) count)),
        h first,
        bounded most (suc first) count h,
      )

-- functions that give the same of each number give the same of all
pub same_of_each : {A : Type 0} (f g : ℕ → List A) (first count : ℕ) → ((j : ℕ) → f j ≡ g j)
    → flat_map f (numbers_from first count) ≡ flat_map g (numbers_from first count)
same_of_each f g first zero h = refl
same_of_each f g first (suc count) h =
    ap (λ xs. xs ++ flat_map f (numbers_from (suc first) count)) (h first)
    ∙ ap (λ xs. g first ++ xs) (same_of_each f g (suc first) count h)
