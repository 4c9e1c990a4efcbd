-- Bytes as a word of hexadecimal digits, of either case.
use Rattle.std.specs.Prelude.{◌≡◌, ◌⊎◌, ℕ, ◌+◌, ◌/◌, ◌%◌, ◌≤◌, List, [], ◌∷◌}

-- a digit of this value, 0 to 15: a decimal digit, or a letter, counted from a or from A
abbrev pub IsDigit : ℕ → ℕ → Type 0
IsDigit value digit =
    ((value ≤ 9) × (digit ≡ 48 + value))
    ⊎ ((10 ≤ value) × (value ≤ 15) × ((digit ≡ 87 + value) ⊎ (digit ≡ 55 + value)))

-- two digits for each byte, the higher one first
abbrev pub AreDigits : List ℕ → List ℕ → Type 0
AreDigits [] digits = digits ≡ []
AreDigits (byte ∷ bytes) digits =
    (high : ℕ) × (low : ℕ) × (others : List ℕ) × (digits ≡ high ∷ low ∷ others)
    × IsDigit (byte / 16) high × IsDigit (byte % 16) low × AreDigits bytes others

-- bytes as a word: a hyphen alone is no bytes
abbrev pub IsHexWord : List ℕ → List ℕ → Type 0
IsHexWord [] word = word ≡ 45 ∷ []
IsHexWord (byte ∷ bytes) word = AreDigits (byte ∷ bytes) word
