-- A gap that closes: the pair with the next number moves from the upper part to the lower.
use Rattle.urb_window.proofs.Common.{AreOver, List, [], ap, arith, cases_eq, counted_from, eq-eqb}
use Rattle.urb_window.proofs.Common.{false, false≢true, holds_at, inl, inr, length, number_lt}
use Rattle.urb_window.proofs.Common.{placed, subst, sym, true, ℕ, ◌++◌, ◌+◌, ◌<◌, ◌^◌, ◌∙◌, ◌∷◌}
use Rattle.urb_window.proofs.Common.{◌≡◌, ◌⊎◌}
use Rattle.std.proofs.lemmas.List.{length_push}
use Rattle.urb_window.proofs.NumberedValues.{counted_push}
use Rattle.urb_window.proofs.ElementPlaces.{placed_above, placed_under}

module _ {V : Type 0} where
  -- the state after one step of closing a gap
  pub record IsMoved (low : List V) (above : List (ℕ × V)) (new_low : List V)
      (rest : List (ℕ × V)) : Type 0 where
    -- the two parts together have the pairs that they had
    pub pairs : counted_from 1 new_low ++ rest ≡ counted_from 1 low ++ above
    -- the numbers of the remaining upper part rise, and are above the new lower part
    pub over : AreOver (length new_low) rest
    -- the new lower part has fewer than 2^32 values
    pub few : length new_low < 2 ^ 32

  -- if the upper part begins with the next number, its value moves to the end of the lower part
  pub moves : (low : List V) (v : V) (rest : List (ℕ × V))
      → AreOver (length low) ((length low + 1, v) ∷ rest)
      → IsMoved low ((length low + 1, v) ∷ rest) (low ++ v ∷ []) rest
  moves low v rest o =
      let long : length (low ++ v ∷ []) ≡ length low + 1 = length_push low v in
      let next : 1 + length low ≡ length low + 1 = omega arith in
      let most : length low + 1 < 2 ^ 32 = o.1 in
      record {
        pairs =
            counted_push 1 low v rest ∙ ap (λ (n : ℕ). counted_from 1 low ++ ((n, v) ∷ rest)) next;
        over = subst (λ (n : ℕ). AreOver n rest) (sym long) o.2;
        few = omega arith;
      }

  -- if the first pair has another number, there is a gap
  pub gap_is : (k : ℕ) (above : List (ℕ × V)) → AreOver k above → holds_at above 0 (k + 1) ≡ false
      → AreOver (k + 1) above
  gap_is k [] o e = tt
  gap_is k (p ∷ ps) o e = at (cases_eq p.0 (k + 1))
    where
      at : (p.0 ≡ k + 1) ⊎ (p.0 ≡ k + 1 → ⊥) → AreOver (k + 1) (p ∷ ps)
      at (inl f) = absurd (false≢true (sym e ∙ eq-eqb p.0 (k + 1) f))
      at (inr f) = let first : k < p.0 = o.0 in (omega arith, o.1, o.2)

  -- the next number's value goes to the end of the lower part
  pub extends : (low : List V) (above : List (ℕ × V)) (v : V) → AreOver (length low + 1) above
      → counted_from 1 (low ++ v ∷ []) ++ above ≡ placed number_lt (counted_from 1 low ++ above)
      (length low + 1, v)
  extends low above v o =
      let next : 1 + length low ≡ length low + 1 = omega arith in
      counted_push 1 low v above
      ∙ (ap (λ (n : ℕ). counted_from 1 low ++ ((n, v) ∷ above)) next
      ∙ (ap (λ ps. counted_from 1 low ++ ps) (sym (placed_under (length low + 1) v above o))
      ∙ sym (placed_above 1 low above (length low + 1) v (omega arith))))
