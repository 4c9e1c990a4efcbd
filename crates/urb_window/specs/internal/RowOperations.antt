-- How the values of one sender are searched, inserted and replaced.
use Rattle.std.specs.Prelude.{◌≡◌, ℕ, zero, suc, ◌+◌, ◌<◌, ◌^◌, Bool, false, nat_lt, ◌==◌}
use Rattle.std.specs.Prelude.{if◌then◌else◌, List, [], ◌∷◌, length, map, Option, Some, None, refl}
use Rattle.urb_names.specs.RisingLists.{placed}
use Rattle.std.specs.Coded.{Coded, code_by, coded×, coded_ℕ, coded_list, coded_option}
use Rattle.urb_window.specs.Row.{Row, pairs_of}

-- a row, encoded as the tuple of its fields, so that proofs can tell rows apart
abbrev pub row_code : {V : Type 0} → Coded V → Coded (Row V)
row_code {V} code =
    code_by
    (List V × (List (ℕ × V) × Option ℕ))
    (coded× (coded_list code) (coded× (coded_list (coded× coded_ℕ code)) (coded_option coded_ℕ)))
    (λ r. (r.low, (r.above, r.reserved)))
    (λ p. record { low = p.0; above = p.1.0; reserved = p.1.1 })
    (λ _. refl)

module _ {V : Type 0} where
  -- the value of the first pair with this number
  abbrev pub numbered : List (ℕ × V) → ℕ → Option V
  numbered [] n = None
  numbered (pair ∷ pairs) n = if pair.0 == n then Some pair.1 else numbered pairs n

  -- pairs are ordered by their numbers
  abbrev pub number_lt : ℕ × V → ℕ × V → Bool
  number_lt pair later = nat_lt pair.0 later.0

  -- the numbers rise, are all greater than this one, and are such as a name may have
  abbrev pub AreOver : ℕ → List (ℕ × V) → Type 0
  AreOver k [] = Unit {0}
  AreOver k (pair ∷ pairs) = (k < pair.0) × (pair.0 < 2 ^ 32) × AreOver pair.0 pairs

  -- whether the pair at this place has this number
  abbrev pub holds_at : List (ℕ × V) → ℕ → ℕ → Bool
  holds_at [] place n = false
  holds_at (pair ∷ pairs) zero n = pair.0 == n
  holds_at (pair ∷ pairs) (suc place) n = holds_at pairs place n

  -- the pairs after this number's value is replaced
  abbrev pub renumbered : List (ℕ × V) → ℕ → V → List (ℕ × V)
  renumbered pairs n v = map (λ pair. if pair.0 == n then (pair.0, v) else pair) pairs

  -- the row after a value is inserted at the place of one more number; the reservation is used up
  pub record IsInserted (old : Row V) (n : ℕ) (v : V) (new : Row V) : Type 0 where
    pub pairs : pairs_of new ≡ placed number_lt (pairs_of old) (n, v)
    pub reserved : new.reserved ≡ None

  -- the row after this number's value is replaced
  pub record IsReplaced (old : Row V) (n : ℕ) (v : V) (new : Row V) : Type 0 where
    pub pairs : pairs_of new ≡ renumbered (pairs_of old) n v
    pub reserved : new.reserved ≡ old.reserved

-- the lower part ends at a gap or at the greatest number, and the numbers above it rise from after
-- the gap
pub record IsRow {V : Type 0} (row : Row V) : Type 0 where
  pub low : length row.low < 2 ^ 32
  pub above : AreOver (length row.low + 1) row.above
