-- What the earlier records say about a record, during the pass over an image.
use Rattle.urb_stable.proofs.Common.{Cert, Content, Entry, Err, HasTold, IsBefore, Label, List, Ok}
use Rattle.urb_stable.proofs.Common.{OnOk, Pend, PendCert, Result, Some, [], ap, append-nil, arith}
use Rattle.urb_stable.proofs.Common.{by_name, cases_Bool, cert, cond, eq-eqb, eqb-true, false}
use Rattle.urb_stable.proofs.Common.{has_name, length, list_any-append, own, own-other, own-push}
use Rattle.urb_stable.proofs.Common.{pend, refl, same_name, slice_get, slice_index_or, subst, suc}
use Rattle.urb_stable.proofs.Common.{sym, take, take-suc, true, ℕ, ⊎_elim, ◌++◌, ◌+◌, ◌<◌, ◌==◌}
use Rattle.urb_stable.proofs.Common.{◌||◌, ◌∙◌, ◌∷◌, ◌≡◌, ◌≤◌, ◌⊎◌}
use Rattle.std.proofs.lemmas.List.{length-take-le}
use Rattle.urb_stable.proofs.IndexGrowth.{one_longer, order-same, pend-next, read_more, same_some}
use Rattle.urb_stable.proofs.JoinedRecords.{cert-append}
use Rattle.urb_stable.specs.internal.EarlierRecords.{AreBefore, IsCount, IsSetOf}
use Rattle.urb_stable.specs.declared.earlier_records.Before.{Before}
use Rattle.urb_stable.specs.declared.earlier_records.Counts.{Counts}
use Rattle.urb_stable.specs.declared.earlier_records.Pass.{Pass}
use Rattle.std.specs.BTreeSet as set

-- ---- the certified names

-- a record without a certificate leaves the set of certified names right
pub names-kept : (earlier : List Entry) (r : Entry) (certified : set.BTreeSet Label)
    → cert (r ∷ []) ≡ [] → IsSetOf (cert earlier) certified
    → IsSetOf (cert (earlier ++ r ∷ [])) certified
names-kept earlier r certified none h x =
    h x ∙ ap (λ xs. has_name xs x)
    (sym (cert-append earlier (r ∷ [])
    ∙ (ap (λ xs. cert earlier ++ xs) none ∙ append-nil (cert earlier))))

-- the set of certified names is right after a record, if the name that it certifies is added
pub names-more : (earlier : List Entry) (r : Entry) (y : Label) (old new : set.BTreeSet Label)
    → cert (r ∷ []) ≡ y ∷ [] → set.Updates by_name old new y true → IsSetOf (cert earlier) old
    → IsSetOf (cert (earlier ++ r ∷ [])) new
names-more earlier r y old new one updates h x =
    updates.0 x
    ∙ (ap (λ b. cond b true (set.contains by_name old x)) (order-same y x)
    ∙ (ap (λ b. cond (same_name y x) true b) (h x)
    ∙ (at (has_name (cert earlier) x) (same_name y x)
    ∙ sym (ap (λ xs. has_name xs x)
    (cert-append earlier (r ∷ []) ∙ ap (λ xs. cert earlier ++ xs) one)
    ∙ list_any-append (λ z. same_name z x) (cert earlier) (y ∷ [])))))
  where
    at : (a b : _) → cond b true a ≡ (a || (b || false))
    at true true = refl
    at true false = refl
    at false true = refl
    at false false = refl

-- a record with a certificate certifies exactly its own name
pub one-name : (r : Entry) (x : Label) → ((m : Content) × (r ≡ PendCert x m)) ⊎ (r ≡ Cert x)
    → cert (r ∷ []) ≡ x ∷ []
one-name r x is = ⊎_elim (λ f. ap (λ s. cert (s ∷ [])) f.1) (λ f. ap (λ s. cert (s ∷ [])) f) is

-- a set with the certified names of the earlier records and the next is right one record further on
pub names-next : (image : List Entry) (i : ℕ) (r : Entry) (certified : set.BTreeSet Label)
    → i < length image → r ≡ slice_index_or image i r
    → IsSetOf (cert (take i image ++ r ∷ [])) certified
    → IsSetOf (cert (take (i + 1) image)) certified
names-next image i r certified l e h =
    subst (λ (rs : List Entry). IsSetOf (cert rs) certified)
    (sym (ap (λ n. take n image) (one_more i)
    ∙ (take-suc image i r l ∙ ap (λ s. take i image ++ s ∷ []) (sym e)))) h
  where
    one_more : (i : ℕ) → i + 1 ≡ suc i
    one_more i = omega arith

-- ---- the node's own messages

one-pair : (r : Entry) (x : Label) (m : Content) → (r ≡ Pend x m) ⊎ (r ≡ PendCert x m)
    → pend (r ∷ []) ≡ (x, m) ∷ []
one-pair r x m is = ⊎_elim (λ f. ap (λ s. pend (s ∷ [])) f) (λ f. ap (λ s. pend (s ∷ [])) f) is

-- the node has no more own messages than records
own-few : (p : ℕ) (records : List Entry) → length (own p (pend records)) ≤ length records
own-few p [] = omega arith
own-few p (Pend x m ∷ records) = at (own-few p records) (x.sender == p)
  where
    at : length (own p (pend records)) ≤ length records → (b : _)
        → length (cond b (m ∷ own p (pend records)) (own p (pend records))) ≤ length
        (Pend x m ∷ records)
    at ih true = omega (arith, ih)
    at ih false = omega (arith, ih)
own-few p (PendCert x m ∷ records) = at (own-few p records) (x.sender == p)
  where
    at : length (own p (pend records)) ≤ length records → (b : _)
        → length (cond b (m ∷ own p (pend records)) (own p (pend records))) ≤ length
        (PendCert x m ∷ records)
    at ih true = omega (arith, ih)
    at ih false = omega (arith, ih)
own-few p (Cert x ∷ records) = let ih = own-few p records in omega (arith, ih)

-- the earlier records hold at most as many own messages as there are records
pub own-room : {A : Type 0} (p : ℕ) (image : List Entry) (i : ℕ) (counts : Counts A)
    → i < length image → IsCount (own p (pend (take i image))) counts → counts.own ≤ i
own-room p image i counts l h =
    let few = own-few p (take i image) in
    let size = length-take-le i image (omega (arith, l)) in
    let total = h.total in
    omega (arith, few, size, total)

-- counts with a message of the node's own are right after the record that holds it
pub count-own : {A : Type 0} (p : ℕ) (image : List Entry) (i : ℕ) (r : Entry) (x : Label)
    (m : Content) (counts : Counts A) → i < length image → r ≡ slice_index_or image i r
    → (r ≡ Pend x m) ⊎ (r ≡ PendCert x m) → x.sender ≡ p
    → IsCount (own p (pend (take i image)) ++ m ∷ []) counts
    → IsCount (own p (pend (take (i + 1) image))) counts
count-own p image i r x m counts l e is mine h =
    subst (λ (ms : List Content). IsCount ms counts)
    (sym (ap (own p) (pend-next image i r l e
    ∙ ap (λ ps. pend (take i image) ++ ps) (one-pair r x m is))
    ∙ own-push p (pend (take i image)) x m (eq-eqb x.sender p mine))) h

-- counts stay right after a record that holds another sender's pair
pub count-other : {A : Type 0} (p : ℕ) (image : List Entry) (i : ℕ) (r : Entry) (x : Label)
    (m : Content) (counts : Counts A) → i < length image → r ≡ slice_index_or image i r
    → (r ≡ Pend x m) ⊎ (r ≡ PendCert x m) → (x.sender ≡ p → ⊥)
    → IsCount (own p (pend (take i image))) counts
    → IsCount (own p (pend (take (i + 1) image))) counts
count-other p image i r x m counts l e is other h =
    subst (λ (ms : List Content). IsCount ms counts)
    (sym (ap (own p) (pend-next image i r l e
    ∙ ap (λ ps. pend (take i image) ++ ps) (one-pair r x m is))
    ∙ own-other p (pend (take i image)) x m not_own)) h
  where
    not_own : (x.sender == p) ≡ false
    not_own =
        ⊎_elim (λ f. absurd (other (eqb-true x.sender p f))) (λ f. f) (cases_Bool (x.sender == p))

-- counts stay right after a certificate
pub count-certificate : {A : Type 0} (p : ℕ) (image : List Entry) (i : ℕ) (r : Entry) (x : Label)
    (counts : Counts A) → i < length image → r ≡ slice_index_or image i r → r ≡ Cert x
    → IsCount (own p (pend (take i image))) counts
    → IsCount (own p (pend (take (i + 1) image))) counts
count-certificate p image i r x counts l e is h =
    subst (λ (ms : List Content). IsCount ms counts)
    (sym (ap (own p) (pend-next image i r l e
    ∙ (ap (λ s. pend (take i image) ++ pend (s ∷ [])) is ∙ append-nil (pend (take i image))))))
    h

-- ---- what the earlier records say

-- with what is said of the next record, the list is right one record further on
pub told-more : (p : ℕ) (image : List Entry) (i : ℕ) (r : Entry) (old new : List Before)
    (before : Before) → slice_get image i ≡ Some r → IsBefore p (take i image) r before
    → new ≡ old ++ before ∷ [] → AreBefore p image i old → AreBefore p image (i + 1) new
told-more p image i r old new before here is items h =
    record {
      size = ap length items ∙ (one_longer old before ∙ ap (λ n. n + 1) h.size);
      each =
          λ k s told at found. ⊎_elim (λ f. h.each k s told at f) (λ f. last k s told at f.0 f.1)
          (read_more old before told k (ap (λ xs. slice_get xs k) (sym items) ∙ found));
    }
  where
    last : (k : ℕ) (s : Entry) (told : Before) → slice_get image k ≡ Some s → k ≡ length old
        → told ≡ before → IsBefore p (take k image) s told
    last k s told at place same =
        let k_is : k ≡ i = place ∙ h.size in
        let s_is : s ≡ r =
        same_some s r (slice_get image k) at (ap (slice_get image) k_is ∙ here) in
        subst (λ (n : ℕ). IsBefore p (take n image) s told) (sym k_is)
        (subst (λ (t : Entry). IsBefore p (take i image) t told) (sym s_is)
        (subst (λ (b : Before). IsBefore p (take i image) r b) (sym same) is))

-- one more record's own message is counted, if there is memory for it
pub has-told : {A E : Type 0} (p : ℕ) (image : List Entry) (i : ℕ) (result : Result (Unit {0}) E)
    (pass : Pass A) → IsSetOf (cert (take (i + 1) image)) pass.certified
    → AreBefore p image (i + 1) pass.told.items
    → OnOk result (IsCount (own p (pend (take (i + 1) image))) pass.counts)
    → OnOk result (HasTold p image (i + 1) pass)
has-told p image i (Ok done) pass names told counts =
    record { names = names; counts = counts; told = told }
has-told p image i (Err e) pass names told counts = tt
