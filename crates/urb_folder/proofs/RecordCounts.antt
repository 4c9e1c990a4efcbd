-- Whether there are records, by the place of the next one.
use Rattle.std.proofs.Common.{arith, nat_lt, suc, sym, zero, ℕ, ◌+◌, ◌∙◌, ◌≡◌}
use Rattle.std.proofs.lemmas.Bool.{le-ltb, lt-ltb}

-- there are some exactly if the next place isn't the first
pub some : (next n : ℕ) → next ≡ n + 1 → nat_lt 1 next ≡ nat_lt 0 n
some next zero counted = le-ltb 1 next (omega (arith, counted))
some next (suc n) counted =
    lt-ltb 1 next (omega (arith, counted)) ∙ sym (lt-ltb 0 (suc n) (omega (arith)))
