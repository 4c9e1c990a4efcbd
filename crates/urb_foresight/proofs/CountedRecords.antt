-- The pairs of a node's own among records that are counted one after the other.
use Rattle.std.proofs.Common.{List, [], ap, arith, length, length-append, slice_index_or, take, ℕ}
use Rattle.std.proofs.Common.{◌++◌, ◌+◌, ◌<◌, ◌∙◌, ◌∷◌, ◌≡◌, ◌≤◌}
use Rattle.std.proofs.lemmas.List.{take_all}
use Rattle.urb_names.proofs.FoundPairs.{own-append}
use Rattle.urb_names.specs.Pairs.{own}
use Rattle.urb_stable.proofs.AppendedElements.{take-next}
use Rattle.urb_stable.proofs.JoinedRecords.{pend-append}
use Rattle.urb_stable.specs.Entries.{Entry}
use Rattle.urb_stable.specs.Records.{pend}

-- how many pairs of the node's own these records have
abbrev pub own_count : ℕ → List Entry → ℕ
own_count p rs = length (own p (pend rs))

-- two lists together have the node's pairs of both
pub count-both : (p : ℕ) (rs ss : List Entry)
    → own_count p (rs ++ ss) ≡ own_count p rs + own_count p ss
count-both p rs ss =
    ap length (ap (own p) (pend-append rs ss) ∙ own-append p (pend rs) (pend ss))
    ∙ length-append (own p (pend rs)) (own p (pend ss))

-- one more record of the list is counted
pub count-next : (p : ℕ) (rs : List Entry) (i : ℕ) (r : Entry) (count one : ℕ) → i < length rs
    → r ≡ slice_index_or rs i r → one ≡ own_count p (r ∷ []) → count ≡ own_count p (take i rs)
    → count + one ≡ own_count p (take (i + 1) rs)
count-next p rs i r count one l e is h =
    let next = ap (own_count p) (take-next rs i r l e) ∙ count-both p (take i rs) (r ∷ []) in
    omega (arith, next, is, h)

-- past the last record, all records are counted
pub count-all : (p : ℕ) (rs : List Entry) (i count : ℕ) → length rs ≤ i
    → count ≡ own_count p (take i rs) → count ≡ own_count p rs
count-all p rs i count l h = h ∙ ap (own_count p) (take_all i rs l)
