-- What was taken from a list when nothing is left of it.
use Rattle.std.proofs.Common.{◌≡◌, ◌++◌, ◌∷◌, ◌∙◌, List, [], append-nil, length, sym}

-- if nothing is left, what was taken is the whole list
pub emptied : {A : Type 0} (taken rest all : List A) → length rest ≡ 0 → taken ++ rest ≡ all
    → taken ≡ all
emptied taken [] all none whole = sym (append-nil taken) ∙ whole
emptied taken (x ∷ rest) all none whole = absurd (let e = none in cc)
