-- The nodes of a group, and its majorities.
use Rattle.std.specs.Prelude.{ℕ, zero, suc, ◌*◌, Bool, ◌&&◌, nat_lt, List, [], ◌∷◌, count_by}

-- count numbers in a row: first, first + 1, ..
abbrev pub numbers_from : ℕ → ℕ → List ℕ
numbers_from first zero = []
numbers_from first (suc count) = first ∷ numbers_from (suc first) count

-- the nodes 1 to n
abbrev pub nodes : ℕ → List ℕ
nodes n = numbers_from 1 n

-- whether p is one of the nodes 1 to n
abbrev pub is_node : ℕ → ℕ → Bool
is_node n p = nat_lt 0 p && nat_lt p (suc n)

-- whether count is more than half of n
abbrev pub is_majority : ℕ → ℕ → Bool
is_majority count n = nat_lt n (2 * count)

-- whether a majority of the n nodes passes the test
abbrev pub majority_passes : ℕ → (ℕ → Bool) → Bool
majority_passes n test = is_majority (count_by test (nodes n)) n
