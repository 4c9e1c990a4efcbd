-- The invariant of a release, and its space, when a certificate comes.
use Rattle.urb_fifo.proofs.Common.{Delivery, IsDelivery, IsNameOf, IsReleaseOf, Label, List}
use Rattle.urb_fifo.proofs.Common.{MAX_NODES, Some, ap, ap₂, arith, beginning, beginning_is}
use Rattle.urb_fifo.proofs.Common.{cases_lt, eq-eqb, false, filter, has_name, inl, inr, length}
use Rattle.urb_fifo.proofs.Common.{length-row, map, name, name_lt, newly_released, not}
use Rattle.urb_fifo.proofs.Common.{numbers_from, or_left, part_of, placed, reach, reach-certified}
use Rattle.urb_fifo.proofs.Common.{refl, reserved_for, row, same_name, same_name-same}
use Rattle.urb_fifo.proofs.Common.{same_name-true, subst, suc, sym, true, vec_capacity, vec_len}
use Rattle.urb_fifo.proofs.Common.{view_of, ℕ, ⊎_elim, ◌++◌, ◌+◌, ◌-◌, ◌<◌, ◌∙◌, ◌∷◌, ◌≡◌, ◌≤◌, ◌⊎◌}
use Rattle.std.proofs.lemmas.Bool.{false≢true, or_cases}
use Rattle.std.specs.Bool.{IsTrue}
use Rattle.urb_names.specs.LabelsAndContents.{IsLimits}
use Rattle.urb_names.specs.RisingLists.{is_rising}
use Rattle.urb_names.proofs.ElementPlaces.{names_ordered, reserved_for-some, rising_placed}
use Rattle.urb_names.proofs.LogRows.{log_certified, new_on_row, reach-grows}
use Rattle.urb_fifo.specs.internal.LogInvariant.{HasRoom, IsKept}
use Rattle.urb_fifo.specs.declared.fifo.Fifo.TheInside.{Inside}
use Rattle.urb_fifo.proofs.LogLengths.{all_parts}
use Rattle.urb_fifo.proofs.LogReleases.{certified_with, part_reaches, parts_of_release}
use Rattle.urb_fifo.proofs.LogReleases.{reach_within, release_goes_on}

-- what always holds follows from the order, the limits and the certificates
pub delivery_of : (d : Delivery) (certificates : List Label) → IsLimits d.limits
    → IsTrue (is_rising name_lt d.certified)
    → ((x : Label) → has_name d.certified x ≡ true → IsNameOf d.limits x)
    → IsReleaseOf certificates d → IsDelivery d
delivery_of d certificates limits order within h = record {
  limits = limits;
  order = order;
  within = within;
  released = (certificates, h);
  parts = parts;
  few =
      all_parts d.log d.limits.cap senders none
      (λ s. subst (λ (n : ℕ). n ≤ d.limits.cap) (sym (part_reaches d parts s))
      (reach_within d within s));
}
  where
    parts : (s : ℕ) → part_of s d.log ≡ beginning s d.certified
    parts = parts_of_release certificates d h

    senders : (x : Label) → has_name d.log x ≡ true → x.sender ≤ MAX_NODES
    senders x e =
        let there : has_name certificates x ≡ true =
        log_certified certificates x (subst (λ (xs : List Label). has_name xs x ≡ true) h.log e)
        in
        (within x (h.certified x ∙ there)).label.sender.1

    none : length (part_of 0 d.log) ≡ 0
    none =
        part_reaches d parts 0
        ∙ ⊎_elim (λ (l : reach 0 d.certified < 1). omega arith)
        (λ (l : 1 ≤ reach 0 d.certified). let first : 0 < 0 =
        (within (name 0 1) (reach-certified 0 1 d.certified (omega arith) l)).label.sender.0 in
        absurd (omega arith))
        (cases_lt (reach 0 d.certified) 1)

-- the invariant remains if only the space grows
pub kept_bigger : {A : Type 0} (a b : Inside A) → b.config ≡ a.config → b.reserved ≡ a.reserved
    → b.certified.names ≡ a.certified.names → (a.certified.room ≡ true → b.certified.room ≡ true)
    → b.log.items ≡ a.log.items → vec_len b.log ≡ vec_len a.log
    → vec_capacity a.log ≤ vec_capacity b.log
    → IsKept a → IsKept b
kept_bigger a b config reserved certified certified_room log log_len log_room kept = record {
  delivery = subst IsDelivery (sym same) kept.delivery;
  room = λ x e.
      let room : HasRoom a x = kept.room x (sym reserved ∙ e) in
      let before : has_name b.certified.names x ≡ false → has_name a.certified.names x ≡ false =
      λ none. ap (λ (xs : List Label). has_name xs x) (sym certified) ∙ none in
      record {
        certified = λ none. certified_room (room.certified (before none));
        log = λ none.
            let old : vec_len a.log + length
            (newly_released a.log.items a.certified.names x) ≤ vec_capacity a.log =
            room.log (before none) in
            let new : length (newly_released b.log.items b.certified.names x) ≡ length
            (newly_released a.log.items a.certified.names x) =
            ap (λ (d : Delivery). length (newly_released d.log d.certified x)) same in
            omega arith;
      };
}
  where
    same : view_of b ≡ view_of a
    same =
        λ i. record {
          limits = config i;
          certified = certified i;
          log = log i;
          reserved =
              reserved i;
        }

-- the invariant remains if one more name of the group is certified
pub kept_certified : {A : Type 0} (a b : Inside A) (x : Label) → IsNameOf a.config x
    → has_name a.certified.names x ≡ false
    → b.config ≡ a.config → b.reserved ≡ reserved_for a.reserved x
    → b.certified.names ≡ placed name_lt a.certified.names x
    → b.log.items ≡ a.log.items ++ newly_released a.log.items a.certified.names x
    → IsKept a → IsKept b
kept_certified a b x is none config reserved certified log kept = record {
  delivery =
      delivery_of (view_of b) (x ∷ kept.delivery.released.0)
      (subst IsLimits (sym config) kept.delivery.limits)
      (ap (is_rising name_lt) certified
      ∙ rising_placed name_lt same_name names_ordered a.certified.names x none
      kept.delivery.order)
      (λ y e. subst (λ l. IsNameOf l y) (sym config)
      (names y (or_cases (same_name x y) (has_name a.certified.names y)
      (sym (ap (λ xs. has_name xs y) certified ∙ certified_with a.certified.names x y) ∙ e))))
      (release_goes_on kept.delivery.released.0 (view_of a)
      (view_of b) x kept.delivery.released.1 log certified);
  room = λ y e.
      let parts = reserved_for-some a.reserved x y (sym reserved ∙ e) in
      let there : has_name b.certified.names x ≡ true =
      ap (λ xs. has_name xs x) certified
      ∙ (certified_with a.certified.names x x
      ∙ or_left (same_name x x) (has_name a.certified.names x) (same_name-same x)) in
      subst (HasRoom b) parts.1 (record {
        certified = λ gone. absurd (false≢true (sym gone ∙ there));
        log = λ gone. absurd (false≢true (sym gone ∙ there));
      });
}
  where
    names : (y : Label) → (same_name x y ≡ true) ⊎ (has_name a.certified.names y ≡ true)
        → IsNameOf a.config y
    names y (inl e) = subst (IsNameOf a.config) (same_name-true x y e) is
    names y (inr e) = kept.delivery.within y e

-- what a certificate releases: its sender's names after those in the log, up to where they will be
-- certified
pub newly_kept : {A : Type 0} (a : Inside A) (x : Label) (k end : ℕ) → IsKept a
    → k ≡ length (beginning x.sender a.certified.names)
    → end ≡ length (beginning x.sender (x ∷ a.certified.names))
    → (k ≤ end) × (newly_released a.log.items a.certified.names x ≡ map (name x.sender)
    (numbers_from (suc k) (end - k)))
newly_kept a x k end kept old new =
    let before : k ≡ reach x.sender a.certified.names =
    old ∙ (ap length (beginning_is x.sender a.certified.names)
    ∙ length-row x.sender 1 (reach x.sender a.certified.names)) in
    let after : end ≡ reach x.sender (x ∷ a.certified.names) =
    new ∙ (ap length (beginning_is x.sender (x ∷ a.certified.names))
    ∙ length-row x.sender 1 (reach x.sender (x ∷ a.certified.names))) in
    let grows : reach x.sender a.certified.names ≤ reach x.sender (x ∷ a.certified.names) =
    reach-grows x.sender x a.certified.names (eq-eqb x.sender x.sender refl) in
    let more : k ≤ end = omega arith in (
      more,
      ap (filter (λ y. not (has_name a.log.items y)))
          (beginning_is x.sender (x ∷ a.certified.names) ∙ ap (row x.sender 1) (sym after))
          ∙ (new_on_row x.sender a.log.items k end more
          (kept.delivery.parts x.sender
          ∙ (beginning_is x.sender a.certified.names ∙ ap (row x.sender 1) (sym before)))
          ∙ ap (λ (i : ℕ). row x.sender i (end - k))
          (let next : 1 + k ≡ suc k = omega arith in next)),
    )

-- how many names a certificate releases
pub newly_count : (d : Delivery) (x : Label) (from end : ℕ)
    → newly_released d.log d.certified x ≡ map (name x.sender)
    (numbers_from (suc from) (end - from))
    → length (newly_released d.log d.certified x) ≡ end - from
newly_count d x from end names = ap length names ∙ length-row x.sender (suc from) (end - from)

-- the invariant remains if space is reserved for a name
pub kept_reserved : {A : Type 0} (a b : Inside A) (x : Label) (from end : ℕ)
    → newly_released a.log.items a.certified.names x ≡ map (name x.sender)
    (numbers_from (suc from) (end - from))
    → b.config ≡ a.config → b.reserved ≡ Some x
    → b.certified.names ≡ a.certified.names → b.certified.room ≡ true
    → b.log.items ≡ a.log.items → vec_len b.log + (end - from) ≤ vec_capacity b.log
    → IsKept a → IsKept b
kept_reserved a b x from end names config reserved certified certified_room log log_room kept =
    record {
      delivery =
          delivery_of (view_of b) kept.delivery.released.0
          (subst IsLimits (sym config) kept.delivery.limits)
          (subst (λ xs. IsTrue (is_rising name_lt xs)) (sym certified) kept.delivery.order)
          (λ y e. subst (λ l. IsNameOf l y) (sym config)
          (kept.delivery.within y (ap (λ xs. has_name xs y) (sym certified) ∙ e)))
          (record {
            log = log ∙ kept.delivery.released.1.log;
            certified = λ y. ap (λ xs. has_name xs y) certified ∙ kept.delivery.released.1.certified y;
          });
      room = λ y e.
          let same : x ≡ y = (let both : Some x ≡ Some y = sym reserved ∙ e in cc) in
          subst (HasRoom b) same (record {
            certified = λ none. certified_room;
            log = λ none.
                let count : length (newly_released a.log.items a.certified.names x) ≡ end - from =
                newly_count (view_of a) x from end names in
                let new : length (newly_released b.log.items b.certified.names x) ≡ length
                (newly_released a.log.items a.certified.names x) =
                ap₂ (λ xs ys. length (newly_released xs ys x)) log certified in
                omega arith;
          });
    }
