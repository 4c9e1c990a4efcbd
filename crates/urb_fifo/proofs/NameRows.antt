-- One sender's names, from one number to another, as a loop releases them.
use Rattle.urb_fifo.proofs.Common.{[], arith, map, name, numbers_from, refl, suc, ℕ, ◌+◌, ◌-◌, ◌<◌}
use Rattle.urb_fifo.proofs.Common.{◌∷◌, ◌≡◌, ◌≤◌}

-- the names after a number up to the end are the next one, and those after it
pub row_next : (s k end : ℕ) → k < end
    → map (name s) (numbers_from (suc k) (end - k)) ≡ name s (k + 1) ∷ map (name s)
    (numbers_from (suc (k + 1)) (end - (k + 1)))
row_next s k end h =
    let left : end - k ≡ suc (end - (k + 1)) = omega arith in
    let next : suc k ≡ k + 1 = omega arith in
    rw (left, next) refl

-- no name comes after the end
pub row_none : (s k end : ℕ) → end ≤ k → map (name s) (numbers_from (suc k) (end - k)) ≡ []
row_none s k end h = let left : end - k ≡ 0 = omega arith in rw left refl
