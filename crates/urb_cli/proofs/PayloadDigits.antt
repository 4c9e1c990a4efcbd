-- The digits of bytes, as the crate for hexadecimal text writes them.
use Rattle.urb_cli.proofs.Common.{Bool, IsBytes, List, [], arith, flat_map, flat_map-cons, inl, inr}
use Rattle.urb_cli.proofs.Common.{refl, slice_index, suc, sym, true, zero, ℕ, ◌%◌, ◌&&◌, ◌/◌, ◌<◌}
use Rattle.urb_cli.proofs.Common.{◌==◌, ◌∷◌, ◌≡◌}
use Rattle.std.proofs.lemmas.Bool.{and_parts, cases_lt, eqb-true}
use Rattle.hex.specs.Hex.{encode_lower, encode_with, lower_digits}
use Rattle.urb_cli.specs.ClientOutput.{hex_byte, hex_digit}

-- whether the first n digits of its table are ours
abbrev are_ours : ℕ → Bool
are_ours zero = true
are_ours (suc n) = slice_index lower_digits n == hex_digit n && are_ours n

is_ours : (n k : ℕ) → are_ours n ≡ true → k < n → slice_index lower_digits k ≡ hex_digit k
is_ours zero k all less = absurd (omega arith)
is_ours (suc n) k all less =
    let parts = and_parts (slice_index lower_digits n == hex_digit n) (are_ours n) all in
    elim (cases_lt k n) [
      | inl below ↦ is_ours n k parts.1 below
      | inr top ↦
          let e : k ≡ n = omega arith in
          rw e (eqb-true (slice_index lower_digits n) (hex_digit n) parts.0)
    ]

-- its text for these bytes has two digits for each byte
pub digits_of : (bytes : List ℕ) → IsBytes bytes → encode_lower bytes ≡ flat_map hex_byte bytes
unfolding encode_with
digits_of [] are = refl
digits_of (b ∷ rest) are =
    let fits : b < 256 = are 0 in
    let high = is_ours 16 (b / 16) refl (omega arith) in
    let low = is_ours 16 (b % 16) refl (omega arith) in
    let more = digits_of rest (λ k. are (suc k)) in
    rw (high, low, more) (sym (flat_map-cons hex_byte b rest))
