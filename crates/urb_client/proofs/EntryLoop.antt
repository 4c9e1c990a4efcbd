-- Entries read one after the other, as a loop does.
use Rattle.urb_client.proofs.Common.{Content, Label, List, None, Option, Some, [], ap, append_assoc}
use Rattle.urb_client.proofs.Common.{arith, entries_at, entry_at, refl, suc, sym, ℕ, ◌++◌, ◌+◌, ◌-◌}
use Rattle.urb_client.proofs.Common.{◌<◌, ◌>>=◌, ◌∙◌, ◌∷◌, ◌≡◌, ◌≤◌}
use Rattle.std.proofs.lemmas.List.{append-nil}

-- what was read before, and what is still read
abbrev pub with_front : List (Label × Content) → Option (List (Label × Content) × List ℕ)
    → Option (List (Label × Content) × List ℕ)
with_front front read = read >>= λ x. Some (front ++ x.0, x.1)

regroup : (front : List (Label × Content)) (entry : Label × Content)
    (read : Option (List (Label × Content) × List ℕ))
    → with_front front (read >>= λ x. Some (entry ∷ x.0, x.1)) ≡ with_front
    (front ++ entry ∷ []) read
regroup front entry (Some x) =
    ap (λ (entries : List (Label × Content)). Some (entries, x.1)) (simp append_assoc)
regroup front entry None = refl

-- once the next entry is read, what was read and what is left are still the whole
pub goes_on : (front : List (Label × Content)) (count i : ℕ) (bytes : List ℕ)
    (entry : Label × Content) (after : List ℕ) (total : Option (List (Label × Content) × List ℕ))
    → i < count → entry_at bytes ≡ Some (entry, after)
    → with_front front (entries_at (count - i) bytes) ≡ total
    → with_front (front ++ entry ∷ []) (entries_at (count - (i + 1)) after) ≡ total
unfolding entries_at
goes_on front count i bytes entry after total lt h so_far =
    let k : count - i ≡ suc (count - (i + 1)) = omega arith in
    let one : with_front front (entries_at (count - i) bytes) ≡ with_front (front ++ entry ∷ [])
    (entries_at (count - (i + 1)) after) =
    rw (k, h) (regroup front entry (entries_at (count - (i + 1)) after)) in
    sym one ∙ so_far

-- if the next entry is missing, the whole can't be read
pub stops : (front : List (Label × Content)) (count i : ℕ) (bytes : List ℕ)
    (total : Option (List (Label × Content) × List ℕ)) → i < count → entry_at bytes ≡ None
    → with_front front (entries_at (count - i) bytes) ≡ total → total ≡ None
unfolding entries_at
stops front count i bytes total lt h so_far =
    let k : count - i ≡ suc (count - (i + 1)) = omega arith in
    let one : with_front front (entries_at (count - i) bytes) ≡ None = rw (k, h) refl in
    sym so_far ∙ one

-- once as many entries as were announced are read, they are the whole
pub is_done : (front : List (Label × Content)) (count i : ℕ) (bytes : List ℕ)
    (total : Option (List (Label × Content) × List ℕ)) → count ≤ i
    → with_front front (entries_at (count - i) bytes) ≡ total → total ≡ Some (front, bytes)
unfolding entries_at
is_done front count i bytes total le so_far =
    let k : count - i ≡ 0 = omega arith in
    let one : with_front front (entries_at (count - i) bytes) ≡ Some (front, bytes) =
    rw k (ap (λ (entries : List (Label × Content)). Some (entries, bytes)) (append-nil front))
    in
    sym so_far ∙ one
