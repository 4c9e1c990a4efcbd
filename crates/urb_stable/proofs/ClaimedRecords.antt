-- The records of a batch that are left once its next record is claimed.
use Rattle.std.proofs.Common.{List, [], add-one, drop, refl, suc, zero, ℕ, ◌+◌, ◌∷◌, ◌≡◌}
use Rattle.urb_stable.specs.Entries.{Entry}
use Rattle.urb_stable.specs.StoredBatches.{rest_of}

rest_suc : (n : ℕ) (xs : List Entry) → drop (suc n) xs ≡ rest_of (drop n xs)
rest_suc zero [] = refl
rest_suc zero (x ∷ xs) = refl
rest_suc (suc n) [] = refl
rest_suc (suc n) (x ∷ xs) = rest_suc n xs

-- one record more is claimed: the rest of those that were left
pub rest-claimed : (n : ℕ) (xs : List Entry) → drop (n + 1) xs ≡ rest_of (drop n xs)
rest-claimed n xs = rw add-one (rest_suc n xs)
