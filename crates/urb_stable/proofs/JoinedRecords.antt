-- The pairs and certificates of two lists of records, one after the other.
use Rattle.urb_stable.proofs.Common.{Cert, Entry, List, Pend, PendCert, [], ap, cert, pend, refl}
use Rattle.urb_stable.proofs.Common.{◌++◌, ◌∷◌, ◌≡◌}

-- the pairs of two lists of records are those of the first, then those of the second
pub pend-append : (xs ys : List Entry) → pend (xs ++ ys) ≡ pend xs ++ pend ys
pend-append [] ys = refl
pend-append (Pend x m ∷ xs) ys = ap (λ ps. (x, m) ∷ ps) (pend-append xs ys)
pend-append (PendCert x m ∷ xs) ys = ap (λ ps. (x, m) ∷ ps) (pend-append xs ys)
pend-append (Cert x ∷ xs) ys = pend-append xs ys

-- the certificates of two lists of records are those of the first, then those of the second
pub cert-append : (xs ys : List Entry) → cert (xs ++ ys) ≡ cert xs ++ cert ys
cert-append [] ys = refl
cert-append (Pend x m ∷ xs) ys = cert-append xs ys
cert-append (PendCert x m ∷ xs) ys = ap (λ ps. x ∷ ps) (cert-append xs ys)
cert-append (Cert x ∷ xs) ys = ap (λ ps. x ∷ ps) (cert-append xs ys)
