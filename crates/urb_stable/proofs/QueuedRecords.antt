-- A queue of records, once one more is taken.
use Rattle.urb_stable.proofs.Common.{Entry, List, [], add-one, ap, drop, refl, suc, take, zero, ℕ}
use Rattle.urb_stable.proofs.Common.{◌+◌, ◌∙◌, ◌∷◌, ◌≡◌}
use Rattle.urb_stable.specs.internal.RecordQueues.{Queued, moved_on}

behind : (x : Entry) (taken left : List Entry)
    → record { taken = x ∷ (moved_on taken left).taken; left = (moved_on taken left).left }
    ≡ moved_on (x ∷ taken) left
behind x taken [] = refl
behind x taken (y ∷ left) = refl

next_suc : (n : ℕ) (xs : List Entry)
    → record { taken = take (suc n) xs; left = drop (suc n) xs } ≡ moved_on (take n xs) (drop n xs)
next_suc zero [] = refl
next_suc zero (x ∷ xs) = refl
next_suc (suc n) [] = refl
next_suc (suc n) (x ∷ xs) =
    ap (λ (q : Queued). record { taken = x ∷ q.taken; left = q.left }) (next_suc n xs)
    ∙ behind x (take n xs) (drop n xs)

-- one record more is taken: the first of those that were left
pub next-taken : (n : ℕ) (xs : List Entry)
    → record { taken = take (n + 1) xs; left = drop (n + 1) xs } ≡ moved_on (take n xs) (drop n xs)
next-taken n xs = rw add-one (next_suc n xs)
