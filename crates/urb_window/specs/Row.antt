-- One sender's values, by number.
use Rattle.std.specs.Prelude.{ℕ, suc, ◌+◌, List, [], ◌∷◌, ◌++◌, Option}

-- The values of the numbers 1, 2, 3, .. without a gap, and those above the gap with their numbers.
-- Also the number for which space is reserved.
pub record Row (V : Type 0) : Type 0 where
  pub low : List V
  pub above : List (ℕ × V)
  pub reserved : Option ℕ

module _ {V : Type 0} where
  -- values with the numbers first, first + 1, ..
  abbrev pub counted_from : ℕ → List V → List (ℕ × V)
  counted_from first [] = []
  counted_from first (v ∷ vs) = (first, v) ∷ counted_from (suc first) vs

  -- all values of a row with their numbers, in order
  abbrev pub pairs_of : Row V → List (ℕ × V)
  pairs_of row = counted_from 1 row.low ++ row.above
