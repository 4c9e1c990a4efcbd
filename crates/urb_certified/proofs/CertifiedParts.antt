-- The two parts after one more name.
use Rattle.urb_certified.proofs.Common.{IsJoined, IsParts, Label, List, all_names, and_from}
use Rattle.urb_certified.proofs.Common.{and_parts, any_insert, ap, arith, both_ways, cases_eq}
use Rattle.urb_certified.proofs.Common.{cases_lt, cases_order, false, false_from_ne_true}
use Rattle.urb_certified.proofs.Common.{false≢true, filter, has_name, inl, inr, is_left, le-leb}
use Rattle.urb_certified.proofs.Common.{low_of, name, name_lt, nat_le, or_cases, or_left, or_right}
use Rattle.urb_certified.proofs.Common.{placed, refl, rising_placed, same_name, same_name-true}
use Rattle.urb_certified.proofs.Common.{slice_set, subst, suc, sym, true, ℕ, ◌+◌, ◌-◌, ◌<◌, ◌==◌}
use Rattle.urb_certified.proofs.Common.{◌^◌, ◌||◌, ◌∙◌, ◌≡◌, ◌≢◌, ◌≤◌, ◌⊎◌}
use Rattle.std.proofs.lemmas.Bool.{cases_Bool, eq-eqb, eqb-true, leb-true, not-false, not-true}
use Rattle.std.proofs.lemmas.Bool.{true_from_ne_false}
use Rattle.std.proofs.lemmas.List.{get_or-set_other, get_or-set_same, length-set}
use Rattle.urb_names.specs.LabelsAndContents.{IsLabel}
use Rattle.urb_names.proofs.ElementPlaces.{names_ordered}
use Rattle.urb_certified.proofs.NameOrder.{names_in_order}
use Rattle.urb_certified.proofs.BinarySearches.{filter_all, filter_has, filter_rises}
use Rattle.urb_certified.proofs.PartMembers.{IsInRows, all_above, all_low, all_true}

-- a name of the sender that stays above has a number past the run's end
pub left_behind : (s end : ℕ) (y : Label) → y.sender ≡ s → is_left s end y ≡ true → end < y.seq
left_behind s end y e h = at (cases_lt end y.seq)
  where
    at : (end < y.seq) ⊎ (y.seq ≤ end) → end < y.seq
    at (inl l) = l
    at (inr l) =
        absurd (false≢true (sym (not-true _ h)
        ∙ and_from (y.sender == s) (nat_le y.seq end) (eq-eqb y.sender s e) (le-leb y.seq end l)))

-- a name that doesn't stay above is the sender's, with a number up to the run's end
pub gone_within : (s end : ℕ) (y : Label) → is_left s end y ≡ false → (y.sender ≡ s) × (y.seq ≤ end)
gone_within s end y h =
    let parts = and_parts (y.sender == s) (nat_le y.seq end) (not-false _ h) in
    (eqb-true y.sender s parts.0, leb-true y.seq end parts.1)

-- the next name closes the gap up to the end of its run
module _ (low : List ℕ) (above : List Label) (x : Label) (end : ℕ) (parts : IsParts low above)
    (label : IsLabel x)
    (next : x.seq ≡ low_of low x.sender + 1) (from : x.seq ≤ end)
    (run : (i : ℕ) → x.seq < i → i ≤ end → has_name above (name x.sender i) ≡ true)
    (stops : end < 2 ^ 32 - 1 → has_name above (name x.sender (suc end)) ≡ false) where
  abbrev new_low : List ℕ
  new_low = slice_set low (x.sender - 1) end

  abbrev new_above : List Label
  new_above = filter (is_left x.sender end) above

  low_here : low_of new_low x.sender ≡ end
  low_here =
      get_or-set_same low (x.sender - 1) end 0
      (omega (arith, parts.senders, label.sender.0, label.sender.1))

  low_there : (s : ℕ) → 1 ≤ s → (s ≡ x.sender → ⊥) → low_of new_low s ≡ low_of low s
  low_there s h other =
      get_or-set_other low (x.sender - 1) (s - 1) end 0 (λ e. other (omega (arith, label.sender.0)))

  left : (y : Label) → has_name new_above y ≡ true
      → (is_left x.sender end y ≡ true) × (has_name above y ≡ true)
  left y e =
      and_parts (is_left x.sender end y) (has_name above y)
      (sym (filter_has name_lt same_name names_in_order (is_left x.sender end) above y) ∙ e)

  stays : (y : Label) → is_left x.sender end y ≡ true → has_name above y ≡ true
      → has_name new_above y ≡ true
  stays y e f =
      filter_has name_lt same_name names_in_order (is_left x.sender end) above y
      ∙ and_from (is_left x.sender end y) (has_name above y) e f

  gap_here : (y : Label) → y.sender ≡ x.sender → end < y.seq → has_name above y ≡ true
      → end + 1 < y.seq
  gap_here y e l f = at (cases_eq y.seq (suc end)) (cases_lt end (2 ^ 32 - 1))
    where
      at : (y.seq ≡ suc end) ⊎ (y.seq ≡ suc end → ⊥) → (end < 2 ^ 32 - 1) ⊎ (2 ^ 32 - 1 ≤ end)
          → end + 1 < y.seq
      at (inl g) (inl m) =
          let same : y ≡ name x.sender (suc end) = (λ i. record { sender = e i; seq = g i }) in
          absurd (false≢true (sym (stops m) ∙ subst (λ z. has_name above z ≡ true) same f))
      at (inl g) (inr m) =
          let big : y.seq < 2 ^ 32 = (parts.gap y f).0.seq.1 in absurd (omega arith)
      at (inr g) m = omega (arith, l)

  closed_parts : IsParts new_low new_above
  closed_parts = record {
    senders = length-set low (x.sender - 1) end ∙ parts.senders;
    order = filter_rises name_lt same_name names_in_order (is_left x.sender end) above parts.order;
    gap = λ y e.
        let kept = left y e in
        let old = parts.gap y kept.1 in
        (old.0, either y kept.0 kept.1 old.0 old.1 (cases_eq y.sender x.sender));
  }
    where
      either : (y : Label) → is_left x.sender end y ≡ true → has_name above y ≡ true → IsLabel y
          → low_of low y.sender + 1 < y.seq → (y.sender ≡ x.sender) ⊎ (y.sender ≡ x.sender → ⊥)
          → low_of new_low y.sender + 1 < y.seq
      either y e f l old (inl g) =
          let here : low_of new_low y.sender ≡ end =
          subst (λ s. low_of new_low s ≡ end) (sym g) low_here in
          let far : end + 1 < y.seq = gap_here y g (left_behind x.sender end y g e) f in
          omega arith
      either y e f l old (inr g) =
          let there : low_of new_low y.sender ≡ low_of low y.sender =
          low_there y.sender l.sender.0 g in omega arith

  in_old : (y : Label) → IsInRows 1 new_low y → (y.sender ≡ x.sender) ⊎ (y.sender ≡ x.sender → ⊥)
      → (same_name x y || has_name (all_names low above) y) ≡ true
  in_old y h (inl e) = at (cases_order y.seq x.seq)
    where
      last : y.seq ≤ end
      last =
          let near : y.seq ≤ low_of new_low y.sender = h.low in
          let here : low_of new_low y.sender ≡ end =
          subst (λ s. low_of new_low s ≡ end) (sym e) low_here in omega arith

      at : (y.seq ≡ x.seq) ⊎ ((y.seq < x.seq) ⊎ (x.seq < y.seq))
          → (same_name x y || has_name (all_names low above) y) ≡ true
      at (inl f) =
          or_left (same_name x y) _ (and_from (x.sender == y.sender) (x.seq == y.seq)
          (eq-eqb x.sender y.sender (sym e)) (eq-eqb x.seq y.seq (sym f)))
      at (inr (inl f)) =
          let low_same : low_of low y.sender ≡ low_of low x.sender = ap (low_of low) e in
          or_right (same_name x y) _ (all_low low above y
          (record { sender = h.sender; seq = h.seq; low = omega arith }))
      at (inr (inr f)) =
          or_right (same_name x y) _ (all_above low above y
          (subst (λ s. has_name above (name s y.seq) ≡ true) (sym e) (run y.seq f last)))
  in_old y h (inr e) =
      let there : low_of new_low y.sender ≡ low_of low y.sender = low_there y.sender h.sender e in
      let near : y.seq ≤ low_of new_low y.sender = h.low in
      or_right (same_name x y) _ (all_low low above y
      (record { sender = h.sender; seq = h.seq; low = omega arith }))

  low_in_new : (y : Label) → 1 ≤ y.seq → y.sender ≡ x.sender → y.seq ≤ end
      → has_name (all_names new_low new_above) y ≡ true
  low_in_new y one e l =
      let here : low_of new_low y.sender ≡ end =
      subst (λ s. low_of new_low s ≡ end) (sym e) low_here in
      all_low new_low new_above y (record
      { sender = omega (arith, label.sender.0); seq = one; low = omega arith })

  in_new : (y : Label) → (has_name above y ≡ true) ⊎ IsInRows 1 low y
      → has_name (all_names new_low new_above) y ≡ true
  in_new y (inl f) = at (cases_Bool (is_left x.sender end y))
    where
      at : (is_left x.sender end y ≡ true) ⊎ (is_left x.sender end y ≡ false)
          → has_name (all_names new_low new_above) y ≡ true
      at (inl e) = all_above new_low new_above y (stays y e f)
      at (inr e) =
          let within = gone_within x.sender end y e in
          low_in_new y (parts.gap y f).0.seq.0 within.0 within.1
  in_new y (inr h) = at (cases_eq y.sender x.sender)
    where
      at : (y.sender ≡ x.sender) ⊎ (y.sender ≡ x.sender → ⊥)
          → has_name (all_names new_low new_above) y ≡ true
      at (inl e) =
          let low_same : low_of low y.sender ≡ low_of low x.sender = ap (low_of low) e in
          let near : y.seq ≤ low_of low y.sender = h.low in
          low_in_new y h.seq e (omega arith)
      at (inr e) =
          let there : low_of new_low y.sender ≡ low_of low y.sender =
          low_there y.sender h.sender e in
          let near : y.seq ≤ low_of low y.sender = h.low in
          all_low new_low new_above y (record { sender = h.sender; seq = h.seq; low = omega arith })

  -- once the gap is closed, the two parts are well formed, and have the certified name besides
  -- those of before
  pub closes : IsJoined low above x (slice_set low (x.sender - 1) end)
      (filter (is_left x.sender end) above)
  closes = record { parts = closed_parts; has = λ y. both_ways _ _ (there y) (back y) }
    where
      there : (y : Label) → has_name (all_names new_low new_above) y ≡ true
          → (same_name x y || has_name (all_names low above) y) ≡ true
      there y e = at (all_true new_low new_above y e)
        where
          at : (has_name new_above y ≡ true) ⊎ IsInRows 1 new_low y
              → (same_name x y || has_name (all_names low above) y) ≡ true
          at (inl f) = or_right (same_name x y) _ (all_above low above y (left y f).1)
          at (inr h) = in_old y h (cases_eq y.sender x.sender)

      back : (y : Label) → (same_name x y || has_name (all_names low above) y) ≡ true
          → has_name (all_names new_low new_above) y ≡ true
      back y e = at (or_cases (same_name x y) (has_name (all_names low above) y) e)
        where
          at : (same_name x y ≡ true) ⊎ (has_name (all_names low above) y ≡ true)
              → has_name (all_names new_low new_above) y ≡ true
          at (inl f) =
              subst (λ z. has_name (all_names new_low new_above) z ≡ true) (same_name-true x y f)
              (low_in_new x label.seq.0 refl from)
          at (inr f) = in_new y (all_true low above y f)

-- if a sender's names above all come after a number, no name up to that number needs removal
pub all_left : (s from end : ℕ) (above : List Label)
    → ((y : Label) → has_name above y ≡ true → y.sender ≡ s → from < y.seq) → end ≤ from
    → above ≡ filter (is_left s end) above
all_left s from end above behind few =
    sym (filter_all name_lt same_name names_in_order (is_left s end) above
    (λ y e. true_from_ne_false _ (λ f.
    let gone = gone_within s end y f in
    let far : from < y.seq = behind y e gone.0 in
    let near : y.seq ≤ end = gone.1 in
    (let no : ⊥ = omega arith in no))))

-- a name above the gap goes to its place there
pub puts : (low : List ℕ) (above : List Label) (x : Label) → IsParts low above → IsLabel x
    → has_name (all_names low above) x ≡ false → (x.seq ≡ low_of low x.sender + 1 → ⊥)
    → IsJoined low above x low (placed name_lt above x)
puts low above x parts label none other = record {
  parts = record {
    senders = parts.senders;
    order = rising_placed name_lt same_name names_ordered above x absent parts.order;
    gap =
        λ y e. either y (or_cases (same_name x y) (has_name above y)
        (sym (any_insert (λ z. same_name z y) above _ x) ∙ e));
  };
  has = λ y. both_ways _ _ (there y) (back y);
}
  where
    absent : has_name above x ≡ false
    absent = false_from_ne_true _ (λ e. false≢true (sym none ∙ all_above low above x e))

    not_low : x.seq ≤ low_of low x.sender → ⊥
    not_low l =
        false≢true (sym none ∙ all_low low above x
        (record { sender = label.sender.0; seq = label.seq.0; low = l }))

    beyond : low_of low x.sender + 1 < x.seq
    beyond = at (cases_order x.seq (low_of low x.sender + 1))
      where
        at : (x.seq ≡ low_of low x.sender + 1)
            ⊎ ((x.seq < low_of low x.sender + 1) ⊎ (low_of low x.sender + 1 < x.seq))
            → low_of low x.sender + 1 < x.seq
        at (inl e) = absurd (other e)
        at (inr (inl l)) = absurd (not_low (omega arith))
        at (inr (inr l)) = l

    either : (y : Label) → (same_name x y ≡ true) ⊎ (has_name above y ≡ true)
        → IsLabel y × (low_of low y.sender + 1 < y.seq)
    either y (inl f) =
        subst (λ z. IsLabel z × (low_of low z.sender + 1 < z.seq)) (same_name-true x y f)
        (label, beyond)
    either y (inr f) = parts.gap y f

    there : (y : Label) → has_name (all_names low (placed name_lt above x)) y ≡ true
        → (same_name x y || has_name (all_names low above) y) ≡ true
    there y e = at (all_true low (placed name_lt above x) y e)
      where
        again : (same_name x y ≡ true) ⊎ (has_name above y ≡ true)
            → (same_name x y || has_name (all_names low above) y) ≡ true
        again (inl g) = or_left (same_name x y) _ g
        again (inr g) = or_right (same_name x y) _ (all_above low above y g)

        at : (has_name (placed name_lt above x) y ≡ true) ⊎ IsInRows 1 low y
            → (same_name x y || has_name (all_names low above) y) ≡ true
        at (inl f) =
            again (or_cases (same_name x y) (has_name above y)
            (sym (any_insert (λ z. same_name z y) above _ x) ∙ f))
        at (inr h) = or_right (same_name x y) _ (all_low low above y h)

    back : (y : Label) → (same_name x y || has_name (all_names low above) y) ≡ true
        → has_name (all_names low (placed name_lt above x)) y ≡ true
    back y e = at (or_cases (same_name x y) (has_name (all_names low above) y) e)
      where
        old : (has_name above y ≡ true) ⊎ IsInRows 1 low y
            → has_name (all_names low (placed name_lt above x)) y ≡ true
        old (inl f) =
            all_above low (placed name_lt above x) y
            (any_insert (λ z. same_name z y) above _ x ∙ or_right (same_name x y) _ f)
        old (inr h) = all_low low (placed name_lt above x) y h

        at : (same_name x y ≡ true) ⊎ (has_name (all_names low above) y ≡ true)
            → has_name (all_names low (placed name_lt above x)) y ≡ true
        at (inl f) =
            all_above low (placed name_lt above x) y
            (any_insert (λ z. same_name z y) above _ x ∙ or_left (same_name x y) _ f)
        at (inr f) = old (all_true low above y f)
