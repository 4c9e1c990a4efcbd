-- What a list of records says, from its first record on, and behind other records.
use Rattle.urb_group.proofs.Common.{Bool, Cert, Content, Entry, Label, List, None, Option, Pend}
use Rattle.urb_group.proofs.Common.{PendCert, Some, [], ap, arith, cert, cond, drop, drop-cons}
use Rattle.urb_group.proofs.Common.{drop_all, false, has_name, length, message_of, of_client}
use Rattle.urb_group.proofs.Common.{option_or, own, pend, pend-append, refl, same_name}
use Rattle.urb_group.proofs.Common.{slice_index_or, suc, sum_by-append, sym, true, ℕ, ◌++◌, ◌+◌}
use Rattle.urb_group.proofs.Common.{◌<◌, ◌==◌, ◌||◌, ◌∙◌, ◌∷◌, ◌≡◌, ◌≤◌}
use Rattle.std.proofs.Common.{length-append}
use Rattle.std.proofs.lemmas.List.Folds.{list_any-append}
use Rattle.urb_names.proofs.FoundPairs.{message_of-behind, message_of-more, own-append}
use Rattle.urb_stable.proofs.JoinedRecords.{cert-append}

-- ---- a walk over a list

-- the list from a place on begins with the element at that place
pub from-here : {X : Type 0} (xs : List X) (i : ℕ) (x : X) → i < length xs
    → x ≡ slice_index_or xs i x → drop i xs ≡ x ∷ drop (i + 1) xs
from-here xs i x l e =
    drop-cons xs i x l
    ∙ (ap (λ y. y ∷ drop (suc i) xs) (sym e) ∙ ap (λ j. x ∷ drop j xs) (one_more i))
  where
    one_more : (i : ℕ) → suc i ≡ i + 1
    one_more i = omega arith

-- ---- the first message of a name

found-first : (r : Entry) (rs : List Entry) (x : Label)
    → message_of (pend (r ∷ rs)) x
    ≡ option_or (message_of (pend (r ∷ [])) x) (message_of (pend rs) x)
found-first (Pend y m) rs x = at (same_name y x)
  where
    at : (b : Bool) → cond b (Some m) (message_of (pend rs) x)
        ≡ option_or (cond b (Some m) None) (message_of (pend rs) x)
    at true = refl
    at false = refl
found-first (PendCert y m) rs x = at (same_name y x)
  where
    at : (b : Bool) → cond b (Some m) (message_of (pend rs) x)
        ≡ option_or (cond b (Some m) None) (message_of (pend rs) x)
    at true = refl
    at false = refl
found-first (Cert y) rs x = refl

-- the walk ends with what this record has
pub found-here : (rs : List Entry) (i : ℕ) (r : Entry) (x : Label) (m : Content) → i < length rs
    → r ≡ slice_index_or rs i r → Some m ≡ message_of (pend (r ∷ [])) x
    → message_of (pend (drop i rs)) x ≡ message_of (pend rs) x → Some m ≡ message_of (pend rs) x
found-here rs i r x m l e f h =
    ap (λ o. option_or o (message_of (pend (drop (i + 1) rs)) x)) f
    ∙ (sym (found-first r (drop (i + 1) rs) x)
    ∙ (ap (λ (ss : List Entry). message_of (pend ss) x) (sym (from-here rs i r l e)) ∙ h))

-- the walk goes on if it has nothing
pub found-later : (rs : List Entry) (i : ℕ) (r : Entry) (x : Label) → i < length rs
    → r ≡ slice_index_or rs i r → None ≡ message_of (pend (r ∷ [])) x
    → message_of (pend (drop i rs)) x ≡ message_of (pend rs) x
    → message_of (pend (drop (i + 1) rs)) x ≡ message_of (pend rs) x
found-later rs i r x l e f h =
    ap (λ o. option_or o (message_of (pend (drop (i + 1) rs)) x)) f
    ∙ (sym (found-first r (drop (i + 1) rs) x)
    ∙ (ap (λ (ss : List Entry). message_of (pend ss) x) (sym (from-here rs i r l e)) ∙ h))

-- past the last record nothing is found
pub found-nowhere : (rs : List Entry) (i : ℕ) (x : Label) → length rs ≤ i
    → message_of (pend (drop i rs)) x ≡ message_of (pend rs) x → None ≡ message_of (pend rs) x
found-nowhere rs i x l h =
    sym (ap (λ (ss : List Entry). message_of (pend ss) x) (drop_all i rs l)) ∙ h

-- behind other records, it is found among those first
pub found-behind : (rs ss : List Entry) (x : Label)
    → message_of (pend (rs ++ ss)) x
    ≡ option_or (message_of (pend rs) x) (message_of (pend ss) x)
found-behind rs ss x =
    ap (λ ps. message_of ps x) (pend-append rs ss) ∙ at (message_of (pend rs) x) refl
  where
    at : (o : Option Content) → message_of (pend rs) x ≡ o
        → message_of (pend rs ++ pend ss) x ≡ option_or o (message_of (pend ss) x)
    at None e = message_of-behind (pend rs) (pend ss) x e
    at (Some m) e = message_of-more (pend rs) (pend ss) x m e

-- ---- certified names

named-first : (r : Entry) (rs : List Entry) (x : Label)
    → has_name (cert (r ∷ rs)) x ≡ (has_name (cert (r ∷ [])) x || has_name (cert rs) x)
named-first (Pend y m) rs x = refl
named-first (PendCert y m) rs x = at (same_name y x) (has_name (cert rs) x)
  where
    at : (a b : Bool) → (a || b) ≡ ((a || false) || b)
    at true b = refl
    at false b = refl
named-first (Cert y) rs x = at (same_name y x) (has_name (cert rs) x)
  where
    at : (a b : Bool) → (a || b) ≡ ((a || false) || b)
    at true b = refl
    at false b = refl

-- the walk ends with a record that certifies the name
pub named-here : (rs : List Entry) (i : ℕ) (r : Entry) (x : Label) → i < length rs
    → r ≡ slice_index_or rs i r → true ≡ has_name (cert (r ∷ [])) x
    → has_name (cert (drop i rs)) x ≡ has_name (cert rs) x → true ≡ has_name (cert rs) x
named-here rs i r x l e f h =
    ap (λ b. b || has_name (cert (drop (i + 1) rs)) x) f
    ∙ (sym (named-first r (drop (i + 1) rs) x)
    ∙ (ap (λ (ss : List Entry). has_name (cert ss) x) (sym (from-here rs i r l e)) ∙ h))

-- the walk goes on past another record
pub named-later : (rs : List Entry) (i : ℕ) (r : Entry) (x : Label) → i < length rs
    → r ≡ slice_index_or rs i r → false ≡ has_name (cert (r ∷ [])) x
    → has_name (cert (drop i rs)) x ≡ has_name (cert rs) x
    → has_name (cert (drop (i + 1) rs)) x ≡ has_name (cert rs) x
named-later rs i r x l e f h =
    ap (λ b. b || has_name (cert (drop (i + 1) rs)) x) f
    ∙ (sym (named-first r (drop (i + 1) rs) x)
    ∙ (ap (λ (ss : List Entry). has_name (cert ss) x) (sym (from-here rs i r l e)) ∙ h))

-- past the last record no name is certified
pub named-nowhere : (rs : List Entry) (i : ℕ) (x : Label) → length rs ≤ i
    → has_name (cert (drop i rs)) x ≡ has_name (cert rs) x → false ≡ has_name (cert rs) x
named-nowhere rs i x l h =
    sym (ap (λ (ss : List Entry). has_name (cert ss) x) (drop_all i rs l)) ∙ h

-- two lists of records certify what one of them does
pub named-behind : (rs ss : List Entry) (x : Label)
    → has_name (cert (rs ++ ss)) x ≡ (has_name (cert rs) x || has_name (cert ss) x)
named-behind rs ss x =
    ap (λ ys. has_name ys x) (cert-append rs ss)
    ∙ list_any-append (λ y. same_name y x) (cert rs) (cert ss)

-- ---- own messages

-- the own messages of two lists of records
pub own-behind : (p : ℕ) (rs ss : List Entry)
    → own p (pend (rs ++ ss)) ≡ own p (pend rs) ++ own p (pend ss)
own-behind p rs ss = ap (own p) (pend-append rs ss) ∙ own-append p (pend rs) (pend ss)

-- the own messages from a record on
own-from : (p : ℕ) (rs : List Entry) (i : ℕ) (r : Entry) → i < length rs
    → r ≡ slice_index_or rs i r
    → own p (pend (drop i rs)) ≡ own p (pend (r ∷ [])) ++ own p (pend (drop (i + 1) rs))
own-from p rs i r l e =
    ap (λ (ss : List Entry). own p (pend ss)) (from-here rs i r l e)
    ∙ own-behind p (r ∷ []) (drop (i + 1) rs)

-- ---- counts

-- a count over two lists
pub client-append : (client : ℕ) (ms os : List Content)
    → of_client client (ms ++ os) ≡ of_client client ms + of_client client os
client-append client ms os = sum_by-append (λ (o : Content). cond (o.client == client) 1 0) ms os

-- the walk counts one record more
pub own-counted : (p : ℕ) (rs : List Entry) (i : ℕ) (r : Entry) (count one all : ℕ)
    → i < length rs → r ≡ slice_index_or rs i r → one ≡ length (own p (pend (r ∷ [])))
    → count + length (own p (pend (drop i rs))) ≡ all
    → (count + one) + length (own p (pend (drop (i + 1) rs))) ≡ all
own-counted p rs i r count one all l e is h =
    let parts = ap length (own-from p rs i r l e)
    ∙ length-append (own p (pend (r ∷ []))) (own p (pend (drop (i + 1) rs))) in
    omega (arith, parts, is, h)

-- also of the messages of one client
pub client-counted : (p client : ℕ) (rs : List Entry) (i : ℕ) (r : Entry) (count one all : ℕ)
    → i < length rs → r ≡ slice_index_or rs i r
    → one ≡ of_client client (own p (pend (r ∷ [])))
    → count + of_client client (own p (pend (drop i rs))) ≡ all
    → (count + one) + of_client client (own p (pend (drop (i + 1) rs))) ≡ all
client-counted p client rs i r count one all l e is h =
    let parts = ap (of_client client) (own-from p rs i r l e)
    ∙ client-append client (own p (pend (r ∷ []))) (own p (pend (drop (i + 1) rs))) in
    omega (arith, parts, is, h)

-- past the last record all are counted
pub own-all : (p : ℕ) (rs : List Entry) (i count all : ℕ) → length rs ≤ i
    → count + length (own p (pend (drop i rs))) ≡ all → count ≡ all
own-all p rs i count all l h =
    let none = ap (λ (ss : List Entry). length (own p (pend ss))) (drop_all i rs l) in
    omega (arith, none, h)

-- also of the messages of one client
pub client-all : (p client : ℕ) (rs : List Entry) (i count all : ℕ) → length rs ≤ i
    → count + of_client client (own p (pend (drop i rs))) ≡ all → count ≡ all
client-all p client rs i count all l h =
    let none = ap (λ (ss : List Entry). of_client client (own p (pend ss))) (drop_all i rs l) in
    omega (arith, none, h)
