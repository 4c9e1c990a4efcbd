-- The log of a list of records, by its certificates and after one more record.
use Rattle.urb_stable.proofs.Common.{Entry, Label, List, [], ap}
use Rattle.urb_stable.proofs.Common.{ap₂, cert, has_name}
use Rattle.urb_stable.proofs.Common.{name, reverse, same_name}
use Rattle.urb_stable.proofs.Common.{sym, true, ◌++◌, ◌+◌, ◌-◌, ◌||◌, ◌∙◌, ◌∷◌, ◌≡◌}
use Rattle.std.proofs.lemmas.List.{reverse-append}
use Rattle.urb_names.proofs.CertificateReaches.{any-reverse, reach-same}
use Rattle.urb_names.proofs.CertificateReaches.{released-exactly, released-more, reversed-back}
use Rattle.urb_names.proofs.CertificateReaches.{reversed-same}
use Rattle.urb_names.proofs.LogRows.{log_certified, reach, row}
use Rattle.urb_names.specs.Release.{released}
use Rattle.urb_stable.proofs.JoinedRecords.{cert-append}
use Rattle.urb_stable.specs.DeliveredLogs.{DeliversExactly, log}
use Rattle.urb_names.proofs.TruthValues.{both_ways}

-- each name of a log is certified by its records
pub logged_certified : (records : List Entry) (x : Label) → has_name (log records) x ≡ true
    → has_name (cert records) x ≡ true
logged_certified records x h =
    any-reverse _ (cert records) (log_certified (reverse (cert records)) x h)

-- a record that certifies a name appends to the log the sender's names that are newly reached
pub log-certificate : (records : List Entry) (r : Entry) (x : Label) → cert (r ∷ []) ≡ x ∷ []
    → log (records ++ r ∷ []) ≡ log records ++ row x.sender
    (1 + reach x.sender (reverse (cert records)))
    (reach x.sender (x ∷ reverse (cert records)) - reach x.sender (reverse (cert records)))
log-certificate records r x e =
    ap (λ xs. released (reverse xs))
    (cert-append records (r ∷ []) ∙ ap (λ ys. cert records ++ ys) e)
    ∙ (ap released (reverse-append (cert records) (x ∷ []))
    ∙ released-more x (reverse (cert records)))

-- What one more certificate releases, as a loop over the certified names finds it.

reversed : (xs : List Label) (x : Label) → has_name (reverse xs) x ≡ has_name xs x
reversed xs x = both_ways _ _ (reversed-same xs x) (reversed-back xs x)

-- If a list of certificates, newest first, releases the log, it still does so with one more.
pub released-joined : (certified : List Label) (records : List Entry) (r : Entry) (x : Label)
    → cert (r ∷ []) ≡ x ∷ [] → released certified ≡ log records
    → ((y : Label) → has_name certified y ≡ has_name (cert records) y)
    → released (x ∷ certified) ≡ log (records ++ r ∷ [])
released-joined certified records r x e l h =
    released-more x certified
    ∙ (ap₂ (λ ys zs. ys ++ zs) l (ap₂ (λ i j. row x.sender (1 + i) (j - i)) old new)
    ∙ sym (log-certificate records r x e))
  where
    turned : (y : Label) → has_name certified y ≡ has_name (reverse (cert records)) y
    turned y = h y ∙ sym (reversed (cert records) y)

    old : reach x.sender certified ≡ reach x.sender (reverse (cert records))
    old = reach-same x.sender certified (reverse (cert records)) turned

    new : reach x.sender (x ∷ certified) ≡ reach x.sender (x ∷ reverse (cert records))
    new =
        reach-same x.sender (x ∷ certified) (x ∷ reverse (cert records))
        (λ y. ap (λ c. same_name x y || c) (turned y))

-- The log is exactly what the certificates release.
pub delivers : (records : List Entry) → DeliversExactly records
delivers records s j = (
  λ h. let k = (released-exactly s j (reverse (cert records))).0 h in
      (k.0, λ i l u. reversed-same (cert records) (name s i) (k.1 i l u)),
  λ h. (released-exactly s j (reverse (cert records))).1
      (h.0, λ i l u. reversed-back (cert records) (name s i) (h.1 i l u)),
)
