-- How far a sender's names go without a gap.
use Rattle.urb_certified.proofs.Common.{IsParts, Label, List, all_names, ap, arith, beginning}
use Rattle.urb_certified.proofs.Common.{cases_lt, cases_order, false, false_from_ne_true}
use Rattle.urb_certified.proofs.Common.{false≢true, has_name, inl, inr, length, low_of, name}
use Rattle.urb_certified.proofs.Common.{name_lt, or_left, or_right, same_name, same_name-same}
use Rattle.urb_certified.proofs.Common.{same_name-true, set_of, subst, suc, sym, true, ℕ, ◌+◌, ◌-◌}
use Rattle.urb_certified.proofs.Common.{◌<◌, ◌^◌, ◌∙◌, ◌∷◌, ◌≡◌, ◌≤◌, ◌⊎◌}
use Rattle.std.proofs.lemmas.Bool.{or_from}
use Rattle.urb_names.proofs.LogRows.{beginning_is, length-row, reach}
use Rattle.urb_names.proofs.CertificateReaches.{reach-is}
use Rattle.urb_certified.proofs.RisingSets.{set_has}
use Rattle.urb_certified.proofs.NameOrder.{names_in_order}
use Rattle.urb_certified.proofs.PartMembers.{IsInRows, all_above, all_low, all_true}

-- the names of the two parts, in order
abbrev pub held : List ℕ → List Label → List Label
held low above = set_of name_lt same_name (all_names low above)

-- the ordered list has exactly the names of the two parts
pub held_has : (low : List ℕ) (above : List Label) (y : Label)
    → has_name (held low above) y ≡ has_name (all_names low above) y
held_has low above y = set_has name_lt same_name names_in_order (all_names low above) y

-- a sender's names up to the first uncertified one are as many as its certificates reach
pub length-beginning : (s : ℕ) (certified : List Label)
    → length (beginning s certified) ≡ reach s certified
length-beginning s certified =
    ap length (beginning_is s certified) ∙ length-row s 1 (reach s certified)

-- each of a sender's names up to its number in the lower part is among the names of both parts
pub in_low : (low : List ℕ) (above : List Label) (s i : ℕ) → 1 ≤ s → 1 ≤ i → i ≤ low_of low s
    → has_name (held low above) (name s i) ≡ true
in_low low above s i h l u =
    held_has low above (name s i)
    ∙ all_low low above (name s i) (record { sender = h; seq = l; low = u })

-- the number after the lower part is not there
pub not_next : (low : List ℕ) (above : List Label) (s : ℕ) → IsParts low above
    → has_name (held low above) (name s (suc (low_of low s))) ≡ false
not_next low above s parts =
    false_from_ne_true _ (λ e. at
    (all_true low above (name s (suc (low_of low s)))
    (sym (held_has low above (name s (suc (low_of low s)))) ∙ e)))
  where
    at : (has_name above (name s (suc (low_of low s))) ≡ true)
        ⊎ IsInRows 1 low (name s (suc (low_of low s))) → ⊥
    at (inl f) =
        let l : low_of low s + 1 < suc (low_of low s) =
        (parts.gap (name s (suc (low_of low s))) f).1 in omega arith
    at (inr f) = let l : suc (low_of low s) ≤ low_of low s = f.low in omega arith

-- a sender's lower part is exactly how far its names go
pub reach_low : (low : List ℕ) (above : List Label) (s : ℕ) → IsParts low above → 1 ≤ s
    → length (beginning s (held low above)) ≡ low_of low s
reach_low low above s parts h =
    length-beginning s (held low above)
    ∙ reach-is s (low_of low s) (held low above) (λ i l u. in_low low above s i h l u)
    (not_next low above s parts)

-- a name that is not the next one changes nothing
pub reach_stays : (low : List ℕ) (above : List Label) (x : Label) → IsParts low above → 1 ≤ x.sender
    → (x.seq ≡ low_of low x.sender + 1 → ⊥)
    → length (beginning x.sender (x ∷ held low above)) ≡ low_of low x.sender
reach_stays low above x parts h other =
    length-beginning x.sender (x ∷ held low above)
    ∙ reach-is x.sender (low_of low x.sender) (x ∷ held low above)
    (λ i l u. or_right (same_name x (name x.sender i)) _ (in_low low above x.sender i h l u))
    (or_from (same_name x (name x.sender (suc (low_of low x.sender)))) _ apart
    (not_next low above x.sender parts))
  where
    apart : same_name x (name x.sender (suc (low_of low x.sender))) ≡ false
    apart =
        false_from_ne_true _ (λ e. let same : x.seq ≡ suc (low_of low x.sender) =
        ap (λ (z : Label). z.seq) (same_name-true x (name x.sender (suc (low_of low x.sender))) e)
        in other (omega arith))

-- the next name extends the reach to the end of its run
pub reach_joins : (low : List ℕ) (above : List Label) (x : Label) (end : ℕ) → IsParts low above
    → 1 ≤ x.sender → x.seq ≡ low_of low x.sender + 1 → x.seq ≤ end
    → ((i : ℕ) → x.seq < i → i ≤ end → has_name above (name x.sender i) ≡ true)
    → (end < 2 ^ 32 - 1 → has_name above (name x.sender (suc end)) ≡ false)
    → length (beginning x.sender (x ∷ held low above)) ≡ end
reach_joins low above x end parts h next from run stops =
    length-beginning x.sender (x ∷ held low above)
    ∙ reach-is x.sender end (x ∷ held low above) (λ i l u. there i l u (cases_order i x.seq))
    (or_from (same_name x (name x.sender (suc end))) _ apart behind)
  where
    there : (i : ℕ) → 1 ≤ i → i ≤ end → (i ≡ x.seq) ⊎ ((i < x.seq) ⊎ (x.seq < i))
        → has_name (x ∷ held low above) (name x.sender i) ≡ true
    there i l u (inl e) =
        or_left (same_name x (name x.sender i)) _
        (subst (λ j. same_name x (name x.sender j) ≡ true) (sym e) (same_name-same x))
    there i l u (inr (inl e)) =
        or_right (same_name x (name x.sender i)) _ (in_low low above x.sender i h l (omega arith))
    there i l u (inr (inr e)) =
        or_right (same_name x (name x.sender i)) _
        (held_has low above (name x.sender i) ∙ all_above low above (name x.sender i) (run i e u))

    apart : same_name x (name x.sender (suc end)) ≡ false
    apart =
        false_from_ne_true _ (λ e. let same : x.seq ≡ suc end =
        ap (λ (z : Label). z.seq) (same_name-true x (name x.sender (suc end)) e) in omega arith)

    at : (has_name above (name x.sender (suc end)) ≡ true)
        ⊎ IsInRows 1 low (name x.sender (suc end)) → ⊥
    at (inl f) = either (cases_lt end (2 ^ 32 - 1))
      where
        either : (end < 2 ^ 32 - 1) ⊎ (2 ^ 32 - 1 ≤ end) → ⊥
        either (inl l) = false≢true (sym (stops l) ∙ f)
        either (inr l) =
            let m : suc end < 2 ^ 32 = (parts.gap (name x.sender (suc end)) f).0.seq.1 in
            omega arith
    at (inr f) = let l : suc end ≤ low_of low x.sender = f.low in omega arith

    behind : has_name (held low above) (name x.sender (suc end)) ≡ false
    behind =
        false_from_ne_true _ (λ e. at
        (all_true low above (name x.sender (suc end))
        (sym (held_has low above (name x.sender (suc end))) ∙ e)))
