-- What storage may turn out to hold, in two cases.
use Rattle.urb_stable.proofs.Common.{Entry, IsContents, List, None, Option, Some, [], inl, inr}
use Rattle.urb_stable.proofs.Common.{refl, ◌++◌, ◌∷◌, ◌≡◌, ◌⊎◌}

-- the certain list, or that list followed by a doubtful record
abbrev pub IsEither : List Entry → Option Entry → List Entry → Type 0
IsEither certain doubtful records =
    (records ≡ certain) ⊎ ((r : Entry) × (doubtful ≡ Some r) × (records ≡ certain ++ r ∷ []))

-- what storage holds is its certain list, or that list and its doubtful record
pub contents-either : (certain : List Entry) (doubtful : Option Entry) (records : List Entry)
    → IsContents certain doubtful records → IsEither certain doubtful records
contents-either certain None records h = inl h
contents-either certain (Some r) records (inl h) = inl h
contents-either certain (Some r) records (inr h) = inr (r, refl, h)
