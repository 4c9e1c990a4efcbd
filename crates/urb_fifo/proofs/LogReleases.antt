-- The log is the release of certificates, and stays so as more come.
use Rattle.urb_fifo.proofs.Common.{Bool, Delivery, IsDelivery, IsNameOf, IsReleaseOf, Label, List}
use Rattle.urb_fifo.proofs.Common.{ap, append-nil, arith, beginning, beginning_is, cases_lt}
use Rattle.urb_fifo.proofs.Common.{cond-false, false, filter, has_name, length, length-row, name}
use Rattle.urb_fifo.proofs.Common.{name_lt, newly_released, not, part_of, placed, reach}
use Rattle.urb_fifo.proofs.Common.{reach-certified, refl, reserved_for, row, same_name}
use Rattle.urb_fifo.proofs.Common.{same_name-true, subst, sym, true, ℕ, ⊎_elim, ◌++◌, ◌+◌, ◌-◌, ◌<◌}
use Rattle.urb_fifo.proofs.Common.{◌||◌, ◌∙◌, ◌∷◌, ◌≡◌, ◌≤◌}
use Rattle.urb_names.specs.Release.{released}
use Rattle.urb_names.proofs.ElementPlaces.{any_insert}
use Rattle.urb_names.proofs.LogRows.{part-released}
use Rattle.urb_names.proofs.CertificateReaches.{reach-same, released-more}
use Rattle.urb_fifo.specs.NewReleases.{certifying}

-- the release of certificates holds each sender's certified names from 1 on without a gap
pub parts_of_release : (certificates : List Label) (d : Delivery) → IsReleaseOf certificates d
    → (s : ℕ) → part_of s d.log ≡ beginning s d.certified
parts_of_release certificates d h s =
    ap (part_of s) h.log
    ∙ (part-released s certificates
    ∙ (ap (row s 1) (reach-same s certificates d.certified (λ x. sym (h.certified x)))
    ∙ sym (beginning_is s d.certified)))

-- a log holds as many names of a sender as the certificates reach
pub part_reaches : (d : Delivery) → ((s : ℕ) → part_of s d.log ≡ beginning s d.certified) → (s : ℕ)
    → length (part_of s d.log) ≡ reach s d.certified
part_reaches d parts s =
    ap length (parts s ∙ beginning_is s d.certified) ∙ length-row s 1 (reach s d.certified)

-- the certificates of names of the group reach at most the cap
pub reach_within : (d : Delivery)
    → ((x : Label) → has_name d.certified x ≡ true → IsNameOf d.limits x) → (s : ℕ)
    → reach s d.certified ≤ d.limits.cap
reach_within d within s =
    ⊎_elim (λ (h : reach s d.certified < 1). omega arith)
    (λ (h : 1 ≤ reach s d.certified).
    (within (name s (reach s d.certified))
    (reach-certified s (reach s d.certified) d.certified h (omega arith))).seq)
    (cases_lt (reach s d.certified) 1)

-- the certified names with one more at its place are these names and that one
pub certified_with : (certified : List Label) (x y : Label)
    → has_name (placed name_lt certified x) y ≡ has_name (x ∷ certified) y
certified_with certified x y = any_insert (λ z. same_name z y) certified _ x

-- if one more certificate appends what it releases, the log is still what the certificates release
pub release_goes_on : (certificates : List Label) (old new : Delivery) (x : Label)
    → IsReleaseOf certificates old
    → new.log ≡ old.log ++ newly_released old.log old.certified x
    → new.certified ≡ placed name_lt old.certified x
    → IsReleaseOf (x ∷ certificates) new
release_goes_on certificates old new x h log certified = record {
  log =
      log
      ∙ (ap (λ ys. old.log ++ filter (λ y. not (has_name old.log y)) ys)
      (beginning_is x.sender (x ∷ old.certified)
      ∙ (ap (row x.sender 1) (reach-same x.sender (x ∷ old.certified)
      (x ∷ certificates) with_it) ∙ sym (beginning_is x.sender (x ∷ certificates))))
      ∙ ap (λ xs. xs ++ filter (λ y. not (has_name xs y)) (beginning x.sender (x ∷ certificates)))
      h.log);
  certified =
      λ y. ap (λ xs. has_name xs y) certified ∙ (certified_with old.certified x y ∙ with_it y);
}
  where
    with_it : (y : Label) → has_name (x ∷ old.certified) y ≡ has_name (x ∷ certificates) y
    with_it y = ap (λ (b : Bool). same_name x y || b) (h.certified y)

-- if a name is certified already, the log is also what the certificates and one more of it release
pub release_stays : (certificates : List Label) (d : Delivery) (x : Label)
    → has_name d.certified x ≡ true → IsReleaseOf certificates d → IsReleaseOf (x ∷ certificates) d
release_stays certificates d x there h = record {
  log =
      h.log ∙ sym (released-more x certificates
      ∙ (ap (λ (n : ℕ). released certificates ++ row x.sender (1 + reach x.sender certificates) n)
      none_left
      ∙ append-nil (released certificates)));
  certified = λ y. h.certified y ∙ same y;
}
  where
    same : (y : Label) → has_name certificates y ≡ has_name (x ∷ certificates) y
    same y = at (same_name x y) refl
      where
        at : (b : Bool) → same_name x y ≡ b
            → has_name certificates y ≡ (b || has_name certificates y)
        at true e =
            ap (has_name certificates) (sym (same_name-true x y e)) ∙ (sym (h.certified x) ∙ there)
        at false e = refl

    none_left : reach x.sender (x ∷ certificates) - reach x.sender certificates ≡ 0
    none_left =
        let e : reach x.sender certificates ≡ reach x.sender (x ∷ certificates) =
        reach-same x.sender certificates (x ∷ certificates) same in omega arith

-- a log has no more names of a sender than the cap
pub part_within : (d : Delivery) → IsDelivery d → (s : ℕ) → length (part_of s d.log) ≤ d.limits.cap
part_within d h s =
    subst (λ (n : ℕ). n ≤ d.limits.cap) (sym (part_reaches d h.parts s)) (reach_within d h.within s)

-- a delivery with one more name in each of its fields is the one that certifying it gives
pub certifying_new : (d new : Delivery) (x : Label) → has_name d.certified x ≡ false
    → new.limits ≡ d.limits → new.certified ≡ placed name_lt d.certified x
    → new.log ≡ d.log ++ newly_released d.log d.certified x
    → new.reserved ≡ reserved_for d.reserved x → new ≡ certifying d x
certifying_new d new x none limits certified log reserved =
    same ∙ sym (cond-false (has_name d.certified x) d
    (record d {
      certified = placed name_lt d.certified x;
      log =
          d.log ++ newly_released d.log d.certified x;
      reserved = reserved_for d.reserved x;
    }) none)
  where
    same : new ≡ record d {
      certified = placed name_lt d.certified x;
      log =
          d.log ++ newly_released d.log d.certified x;
      reserved = reserved_for d.reserved x;
    }
    same =
        λ i. record {
          limits = limits i;
          certified = certified i;
          log = log i;
          reserved =
              reserved i;
        }

-- certifying a new name puts it at its place, appends what it releases, and leaves only its own
-- reservation
pub certified_new : (d new : Delivery) (x : Label) → has_name d.certified x ≡ false
    → new ≡ certifying d x
    → new ≡ record d {
      certified = placed name_lt d.certified x;
      log =
          d.log ++ newly_released d.log d.certified x;
      reserved = reserved_for d.reserved x;
    }
certified_new d new x none is =
    is ∙ cond-false (has_name d.certified x) d
    (record d {
      certified = placed name_lt d.certified x;
      log =
          d.log ++ newly_released d.log d.certified x;
      reserved = reserved_for d.reserved x;
    }) none
