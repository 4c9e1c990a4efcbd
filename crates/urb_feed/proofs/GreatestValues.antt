-- The greatest of the values at numbers in a row.
use Rattle.urb_feed.proofs.Common.{List, [], ap, arith, greatest, max, numbers_from, numbers_more}
use Rattle.urb_feed.proofs.Common.{suc, sym, ℕ, ◌++◌, ◌+◌, ◌∙◌, ◌∷◌, ◌≡◌}

greatest-append : (f : ℕ → ℕ) (ns : List ℕ) (n : ℕ)
    → greatest f (ns ++ n ∷ []) ≡ max (greatest f ns) (f n)
greatest-append f [] n = omega arith
greatest-append f (m ∷ ns) n = omega (arith, greatest-append f ns n)

-- one more number
pub greatest_more : (f : ℕ → ℕ) (count i j : ℕ) → i ≡ 1 + count → j ≡ count + 1
    → greatest f (numbers_from 1 j) ≡ max (greatest f (numbers_from 1 count)) (f i)
greatest_more f count i j e h =
    ap (λ n. greatest f (numbers_from 1 n)) next
    ∙ (ap (greatest f) (numbers_more 1 count)
    ∙ (greatest-append f (numbers_from 1 count) (1 + count)
    ∙ ap (λ n. max (greatest f (numbers_from 1 count)) (f n)) (sym e)))
  where
    next : j ≡ suc count
    next = omega arith
