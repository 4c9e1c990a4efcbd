-- Bytes that are read as a number and encoded again.
use Rattle.std.proofs.Common.{◌≡◌, ◌∙◌, sym, ℕ, ◌+◌, ◌%◌, ◌/◌, ◌≤◌, ◌<◌, List, [], ◌∷◌, ◌++◌}
use Rattle.std.proofs.Common.{length, drop, slice_index, ap, arith, length-drop}
use Rattle.std.proofs.lemmas.List.{drop-drop, get_or-drop}
use Rattle.byteorder.specs.Endian.{big_number, big_bytes}

-- each number is a byte
abbrev pub AreBytes : List ℕ → Type 0
AreBytes xs = (i : ℕ) → slice_index xs i < 256

front_two : (xs : List ℕ) → 2 ≤ length xs → AreBytes xs
    → big_bytes 2 (big_number 2 xs) ++ drop 2 xs ≡ xs
front_two [] long fit = absurd (omega (arith, long))
front_two (a ∷ []) long fit = absurd (omega (arith, long))
front_two (a ∷ b ∷ rest) long fit =
    let x = big_number 2 (a ∷ b ∷ rest) in
    let high : x / 256 % 256 ≡ a = omega (arith, fit 0, fit 1) in
    let low : x % 256 ≡ b = omega (arith, fit 0, fit 1) in
    λ i. high i ∷ low i ∷ rest

front_four : (xs : List ℕ) → 4 ≤ length xs → AreBytes xs
    → big_bytes 4 (big_number 4 xs) ++ drop 4 xs ≡ xs
front_four [] long fit = absurd (omega (arith, long))
front_four (a ∷ []) long fit = absurd (omega (arith, long))
front_four (a ∷ b ∷ []) long fit = absurd (omega (arith, long))
front_four (a ∷ b ∷ c ∷ []) long fit = absurd (omega (arith, long))
front_four (a ∷ b ∷ c ∷ d ∷ rest) long fit =
    let x = big_number 4 (a ∷ b ∷ c ∷ d ∷ rest) in
    let first : x / 16777216 % 256 ≡ a = omega (arith, fit 0, fit 1, fit 2, fit 3) in
    let second : x / 65536 % 256 ≡ b = omega (arith, fit 0, fit 1, fit 2, fit 3) in
    let third : x / 256 % 256 ≡ c = omega (arith, fit 0, fit 1, fit 2, fit 3) in
    let last : x % 256 ≡ d = omega (arith, fit 0, fit 1, fit 2, fit 3) in
    λ i. first i ∷ second i ∷ third i ∷ last i ∷ rest

-- bytes stay bytes when the first k are dropped
pub left_are_bytes : (k : ℕ) (xs : List ℕ) → AreBytes xs → AreBytes (drop k xs)
left_are_bytes k xs fit = λ i. rw (get_or-drop k xs i 0) (fit (k + i))

-- the bytes from a place on are the encoding of the number in the next two, then the others
pub two_at : (k : ℕ) (xs : List ℕ) → k + 2 ≤ length xs → AreBytes xs
    → drop k xs ≡ big_bytes 2 (big_number 2 (drop k xs)) ++ drop (k + 2) xs
two_at k xs long fit =
    let again = front_two (drop k xs) (omega (arith, length-drop k xs)) (left_are_bytes k xs fit) in
    sym again ∙ ap (λ rest. big_bytes 2 (big_number 2 (drop k xs)) ++ rest) (drop-drop 2 k xs)

-- the bytes from a place on are the encoding of the number in the next four, then the others
pub four_at : (k : ℕ) (xs : List ℕ) → k + 4 ≤ length xs → AreBytes xs
    → drop k xs ≡ big_bytes 4 (big_number 4 (drop k xs)) ++ drop (k + 4) xs
four_at k xs long fit =
    let again =
    front_four (drop k xs) (omega (arith, length-drop k xs)) (left_are_bytes k xs fit) in
    sym again ∙ ap (λ rest. big_bytes 4 (big_number 4 (drop k xs)) ++ rest) (drop-drop 4 k xs)
