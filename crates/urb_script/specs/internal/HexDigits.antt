-- How hexadecimal digits are read.
use Rattle.std.specs.Prelude.{◌≡◌, ◌⊎◌, ℕ, ◌+◌, ◌-◌, ◌*◌, ◌%◌, ◌≤◌, nat_lt, if◌then◌else◌}
use Rattle.std.specs.Prelude.{List, [], ◌∷◌, length}
use Rattle.std.specs.List.{AllByRecursion}

-- 0 to 9, A to F or a to f
abbrev pub IsHexDigit : ℕ → Type 0
IsHexDigit digit =
    ((48 ≤ digit) × (digit ≤ 57)) ⊎ (((65 ≤ digit) × (digit ≤ 70)) ⊎ ((97 ≤ digit) × (digit ≤ 102)))

-- the value of a digit
abbrev pub digit_value : ℕ → ℕ
digit_value digit =
    if nat_lt digit 58 then digit - 48 else (if nat_lt digit 71 then digit - 55 else digit - 87)

-- the byte of two digits
abbrev pub byte_of : ℕ → ℕ → ℕ
byte_of high low = 16 * digit_value high + digit_value low

-- the bytes of digits, two by two
abbrev pub bytes_of : List ℕ → List ℕ
bytes_of [] = []
bytes_of (digit ∷ []) = []
bytes_of (high ∷ low ∷ digits) = byte_of high low ∷ bytes_of digits

-- pairs of digits, and nothing else
abbrev pub ArePairs : List ℕ → Type 0
ArePairs digits = (length digits % 2 ≡ 0) × AllByRecursion IsHexDigit digits
