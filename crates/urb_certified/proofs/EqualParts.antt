-- Two pairs of parts that hold the same names are equal.
use Rattle.urb_certified.proofs.Common.{IsParts, Label, List, [], all_names, ap, ap₂, arith}
use Rattle.urb_certified.proofs.Common.{beginning, both_ways, get_or, has_name, inl, inr, length}
use Rattle.urb_certified.proofs.Common.{low_of, name_lt, refl, same_name, subst, suc, sym, true, ℕ}
use Rattle.urb_certified.proofs.Common.{◌+◌, ◌-◌, ◌<◌, ◌∙◌, ◌∷◌, ◌≡◌, ◌≤◌, ◌⊎◌}
use Rattle.urb_certified.proofs.RisingSets.{rising_same}
use Rattle.urb_certified.proofs.NameOrder.{names_in_order}
use Rattle.urb_certified.proofs.PartMembers.{IsInRows, all_above, all_true}
use Rattle.urb_certified.proofs.SenderReaches.{held, held_has, reach_low}

same_numbers : (xs ys : List ℕ) → length xs ≡ length ys → ((i : ℕ) → get_or xs i 0 ≡ get_or ys i 0)
    → xs ≡ ys
same_numbers [] [] e h = refl
same_numbers [] (y ∷ ys) e h = absurd (omega arith)
same_numbers (x ∷ xs) [] e h = absurd (omega arith)
same_numbers (x ∷ xs) (y ∷ ys) e h =
    ap₂ (λ (z : ℕ) (zs : List ℕ). z ∷ zs) (h 0) (same_numbers xs ys (omega arith) (λ i. h (suc i)))

module _ (low low' : List ℕ) (above above' : List Label) (parts : IsParts low above)
    (parts' : IsParts low' above') (same : held low above ≡ held low' above') where
  same_reach : (s : ℕ) → 1 ≤ s → low_of low s ≡ low_of low' s
  same_reach s h =
      sym (reach_low low above s parts h)
      ∙ (ap (λ xs. length (beginning s xs)) same ∙ reach_low low' above' s parts' h)

  -- two pairs of parts with the same names have the same lower part
  pub same_low : low ≡ low'
  same_low =
      same_numbers low low' (parts.senders ∙ sym parts'.senders)
      (λ i. let one : suc i - 1 ≡ i = omega arith in
      subst (λ (j : ℕ). get_or low j 0 ≡ get_or low' j 0) one (same_reach (suc i) (omega arith)))

  same_all : (y : Label) → has_name (all_names low above) y ≡ has_name (all_names low' above') y
  same_all y = sym (held_has low above y) ∙ (ap (λ xs. has_name xs y) same ∙ held_has low' above' y)

  there : (y : Label) → has_name above y ≡ true → has_name above' y ≡ true
  there y e = at (all_true low' above' y (sym (same_all y) ∙ all_above low above y e))
    where
      at : (has_name above' y ≡ true) ⊎ IsInRows 1 low' y → has_name above' y ≡ true
      at (inl f) = f
      at (inr h) =
          let reach = same_reach y.sender h.sender in
          let near : y.seq ≤ low_of low' y.sender = h.low in
          let far : low_of low y.sender + 1 < y.seq = (parts.gap y e).1 in
          absurd (omega arith)

  back : (y : Label) → has_name above' y ≡ true → has_name above y ≡ true
  back y e = at (all_true low above y (same_all y ∙ all_above low' above' y e))
    where
      at : (has_name above y ≡ true) ⊎ IsInRows 1 low y → has_name above y ≡ true
      at (inl f) = f
      at (inr h) =
          let reach = same_reach y.sender h.sender in
          let near : y.seq ≤ low_of low y.sender = h.low in
          let far : low_of low' y.sender + 1 < y.seq = (parts'.gap y e).1 in
          absurd (omega arith)

  -- two pairs of parts with the same names have the same upper part
  pub same_above : above ≡ above'
  same_above =
      rising_same name_lt same_name names_in_order above above' parts.order parts'.order
      (λ y. both_ways _ _ (there y) (back y))
