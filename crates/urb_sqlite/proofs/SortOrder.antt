-- `sort_by` gives the sorted order of a list. If no two elements tie, it is the only one.
use Rattle.urb_sqlite.proofs.Common.{AllByRecursion, Bool, Equal, Greater, IsPermutation}
use Rattle.urb_sqlite.proofs.Common.{IsPermutation-sort_by, IsPermutation-trans, IsSorted}
use Rattle.urb_sqlite.proofs.Common.{IsTotalOrder, Less, List, Ordering, [], all_weaker, ap, arith}
use Rattle.urb_sqlite.proofs.Common.{cond, false, is_gt, is_lt, refl, sort_by, sorted_unique, suc}
use Rattle.urb_sqlite.proofs.Common.{true, zero, ◌+◌, ◌∙◌, ◌∷◌, ◌≡◌}
use Rattle.std.proofs.Common.{true≢false}
use Rattle.std.specs.Ordering.{ordering_reverse}
use Rattle.std.proofs.lemmas.Cmp.{upto}
use Rattle.sqlite_trees.specs.Tree.{IsAscending}
use Rattle.sqlite_keyed.specs.Lists.{insert_sorted}

module _ {X : Type 0} (cmp : X → X → Ordering) (total : IsTotalOrder cmp) where
  abbrev AtMost : X → X → Type 0
  AtMost a b = is_gt (cmp a b) ≡ false

  all-insert : (P : X → Type 0) (new : X) (xs : List X) → P new → AllByRecursion P xs
      → AllByRecursion P (insert_sorted cmp new xs)
  all-insert P new [] h all = (h, tt)
  all-insert P new (x ∷ xs) h all =
      elim (is_gt (cmp new x)) as (λ b.
      AllByRecursion P (cond b (x ∷ insert_sorted cmp new xs) (new ∷ x ∷ xs)))
      [ true ↦ (all.0, all-insert P new xs h all.1) | false ↦ (h, all) ]

  below : (o : Ordering) → is_gt o ≡ true → is_gt (ordering_reverse o) ≡ false
  below Less h = cc
  below Equal h = refl
  below Greater h = refl

  up-insert : (new : X) (xs : List X) → IsAscending AtMost xs
      → IsAscending AtMost (insert_sorted cmp new xs)
  up-insert new [] up = (tt, tt)
  up-insert new (x ∷ xs) up = go (is_gt (cmp new x)) refl (up-insert new xs up.1)
    where
      go : (b : Bool) → is_gt (cmp new x) ≡ b → IsAscending AtMost (insert_sorted cmp new xs)
          → IsAscending AtMost (cond b (x ∷ insert_sorted cmp new xs) (new ∷ x ∷ xs))
      go true e more =
          (all-insert (AtMost x) new xs (ap is_gt (total.antisymm x new) ∙ below _ e) up.0, more)
      go false e more = ((e, all_weaker _ (AtMost new) (λ z. upto total new x z e) xs up.0), up)

  up-sort : (xs : List X) → IsAscending AtMost (sort_by cmp xs)
  up-sort [] = tt
  up-sort (x ∷ xs) = up-insert x _ (up-sort xs)

  not_below : (o : Ordering) → is_gt o ≡ false → is_lt (ordering_reverse o) ≡ false
  not_below Less h = refl
  not_below Equal h = refl
  not_below Greater h = absurd (true≢false h)

  sorted_from_up : (xs : List X) → IsAscending AtMost xs → IsSorted cmp xs
  sorted_from_up [] up k d low high = absurd (omega arith)
  sorted_from_up (x ∷ []) up k d low high = absurd (omega arith)
  sorted_from_up (x ∷ y ∷ xs) up zero d low high =
      ap is_lt (total.antisymm y x) ∙ not_below _ up.0.0
  sorted_from_up (x ∷ y ∷ xs) up (suc k) d low high =
      let e : suc k + 1 ≡ suc (k + 1) = omega arith in
      rw e (sorted_from_up (y ∷ xs) up.1 k d (omega arith) (omega arith))

  -- `sort_by` gives a sorted list
  pub sorted-sort_by : (xs : List X) → IsSorted cmp (sort_by cmp xs)
  sorted-sort_by xs = sorted_from_up _ (up-sort xs)

  -- a list has only one rising order
  pub sort_is : (xs ys : List X) → IsAscending (λ a b. cmp a b ≡ Less) ys → IsPermutation ys xs
      → sort_by cmp xs ≡ ys
  sort_is xs ys strict same =
      sorted_unique cmp total ys _ strict
      (IsPermutation-trans _ _ _ same
      (Rattle.std.proofs.lemmas.List.Sorted.IsPermutation-sym _ _
      (IsPermutation-sort_by cmp total xs))) (sorted-sort_by xs)
