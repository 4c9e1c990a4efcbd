-- How many names of a sender a log has, by the last of them.
use Rattle.urb_feed.proofs.Common.{Bool, Label, List, [], ap, append-nil, arith, cases_lt, cond}
use Rattle.urb_feed.proofs.Common.{eq-eqb, has_name, inl, inr, le-ltb, length, length-append}
use Rattle.urb_feed.proofs.Common.{lt-ltb, map, name, names, nat_lt, ne_eqb, not, numbers_from}
use Rattle.urb_feed.proofs.Common.{part_of, suc, sym, zero, ℕ, ◌++◌, ◌+◌, ◌<◌, ◌==◌, ◌∙◌, ◌∷◌, ◌≡◌}
use Rattle.urb_feed.proofs.Common.{◌≤◌, ◌⊎◌}
use Rattle.std.proofs.lemmas.List.Elements.{filter-append}
use Rattle.urb_names.proofs.LogRows.{has-row, has-row-not, has_name-part}

-- the last of names in a row has the number of all
last_in_row : (s a k : ℕ) (before : List Label) (x : Label)
    → before ++ x ∷ [] ≡ map (name s) (numbers_from a k) → x.seq ≡ a + length before
last_in_row s a zero [] x e = absurd (cc (e))
last_in_row s a (suc k) [] x e =
    let first : x ≡ name s a = cc (e) in
    let here : a ≡ a + 0 = omega arith in
    ap (λ (y : Label). y.seq) first ∙ here
last_in_row s a zero (y ∷ before) x e = absurd (cc (e))
last_in_row s a (suc k) (y ∷ before) x e =
    let rest : before ++ x ∷ [] ≡ map (name s) (numbers_from (suc a) k) = cc (e) in
    let here : suc a + length before ≡ a + suc (length before) = omega arith in
    last_in_row s (suc a) k before x rest ∙ here

-- the part of a list to which a name of the sender is added
part_more : (s : ℕ) (xs : List Label) (x : Label) → x.sender ≡ s
    → part_of s (xs ++ x ∷ []) ≡ part_of s xs ++ x ∷ []
part_more s xs x e =
    filter-append (λ y. y.sender == s) xs (x ∷ [])
    ∙ ap (λ (b : Bool). part_of s xs ++ cond b (x ∷ []) []) (eq-eqb x.sender s e)

-- the part of a list to which a name of another sender is added
pub part_other : (s : ℕ) (xs : List Label) (x : Label) → (x.sender ≡ s → ⊥)
    → part_of s (xs ++ x ∷ []) ≡ part_of s xs
part_other s xs x e =
    filter-append (λ y. y.sender == s) xs (x ∷ [])
    ∙ (ap (λ (b : Bool). part_of s xs ++ cond b (x ∷ []) []) (ne_eqb x.sender s e)
    ∙ append-nil (part_of s xs))

-- The names of a sender in a list end with this name, and they are numbered from 1 on. So the name
-- has the number of all.
pub last_number : (s : ℕ) (log before : List Label) (x : Label)
    → part_of s log ≡ names s (length (part_of s log))
    → part_of s log ≡ part_of s (before ++ x ∷ []) → x.sender ≡ s
    → x.seq ≡ length (part_of s log)
last_number s log before x order same sender =
    let parts : part_of s before ++ x ∷ [] ≡ part_of s log =
    sym (same ∙ part_more s before x sender) in
    let last = last_in_row s 1 (length (part_of s log)) (part_of s before) x (parts ∙ order) in
    let long = ap length parts in
    omega (arith, last, long, length-append (part_of s before) (x ∷ []))

-- a list that has a sender's names in order has those with numbers up to their count
pub has_by_number : (s j : ℕ) (xs : List Label)
    → part_of s xs ≡ names s (length (part_of s xs)) → 1 ≤ j
    → not (has_name xs (name s j)) ≡ nat_lt (length (part_of s xs)) j
has_by_number s j xs order low = at (cases_lt (length (part_of s xs)) j)
  where
    here : has_name xs (name s j) ≡ has_name (names s (length (part_of s xs))) (name s j)
    here = sym (has_name-part s j xs) ∙ ap (λ ys. has_name ys (name s j)) order

    at : (length (part_of s xs) < j) ⊎ (j ≤ length (part_of s xs))
        → not (has_name xs (name s j)) ≡ nat_lt (length (part_of s xs)) j
    at (inl above) =
        ap not (here ∙ has-row-not s 1 (length (part_of s xs)) j (inr (omega arith)))
        ∙ sym (lt-ltb (length (part_of s xs)) j above)
    at (inr within) =
        ap not (here ∙ has-row s 1 (length (part_of s xs)) j low (omega arith))
        ∙ sym (le-ltb (length (part_of s xs)) j within)
