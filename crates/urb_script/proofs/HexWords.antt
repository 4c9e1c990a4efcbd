-- Words of hexadecimal digits, and the bytes that they encode.
use Rattle.urb_script.proofs.Common.{Bool, IsHexWord, IsTrue, List, [], ap, append_assoc, ap₂}
use Rattle.urb_script.proofs.Common.{arith, bytes_of, drop, false, get_or, inl, inr, length}
use Rattle.urb_script.proofs.Common.{nat_tests, refl, subst, suc, sym, true, ℕ, ◌%◌, ◌*◌, ◌++◌, ◌+◌}
use Rattle.urb_script.proofs.Common.{◌-◌, ◌/◌, ◌<◌, ◌↔◌, ◌∙◌, ◌∷◌, ◌≡◌, ◌≢◌, ◌≤◌, ◌⊎◌}
use Rattle.std.specs.List.{AllByRecursion}
use Rattle.std.proofs.lemmas.List.{drop_more}
use Rattle.urb_script.specs.ByteWords.{AreDigits, IsDigit}
use Rattle.urb_script.specs.internal.HexDigits.{ArePairs, IsHexDigit, byte_of, digit_value}

-- ---- one digit

value_low : (v d : ℕ) → v ≤ 9 → d ≡ 48 + v → digit_value d ≡ v
value_low v d small e = grind (arith, nat_tests)

value_lower : (v d : ℕ) → 10 ≤ v → v ≤ 15 → d ≡ 87 + v → digit_value d ≡ v
value_lower v d from small e = grind (arith, nat_tests)

value_upper : (v d : ℕ) → 10 ≤ v → v ≤ 15 → d ≡ 55 + v → digit_value d ≡ v
value_upper v d from small e = grind (arith, nat_tests)

value_of_digit : (v d : ℕ) → IsDigit v d → digit_value d ≡ v
value_of_digit v d (inl h) = value_low v d h.0 h.1
value_of_digit v d (inr h) = either h.2
  where
    either : (d ≡ 87 + v) ⊎ (d ≡ 55 + v) → digit_value d ≡ v
    either (inl e) = value_lower v d h.0 h.1 e
    either (inr e) = value_upper v d h.0 h.1 e

is_hex : (v d : ℕ) → IsDigit v d → IsHexDigit d
is_hex v d (inl h) = inl (omega (arith, h.0, h.1), omega (arith, h.0, h.1))
is_hex v d (inr h) = either h.2
  where
    either : (d ≡ 87 + v) ⊎ (d ≡ 55 + v) → IsHexDigit d
    either (inl e) = inr (inr (omega (arith, h.0, h.1, e), omega (arith, h.0, h.1, e)))
    either (inr e) = inr (inl (omega (arith, h.0, h.1, e), omega (arith, h.0, h.1, e)))

at_low : (d : ℕ) → 48 ≤ d → d ≤ 57 → IsDigit (digit_value d) d
at_low d from to =
    let e : digit_value d ≡ d - 48 = value_low (d - 48) d (omega arith) (omega arith) in
    subst (λ (v : ℕ). IsDigit v d) (sym e) (inl (omega arith, omega arith))

at_upper : (d : ℕ) → 65 ≤ d → d ≤ 70 → IsDigit (digit_value d) d
at_upper d from to =
    let e : digit_value d ≡ d - 55 =
    value_upper (d - 55) d (omega arith) (omega arith) (omega arith) in
    subst (λ (v : ℕ). IsDigit v d) (sym e) (inr (omega arith, omega arith, inr (omega arith)))

at_lower : (d : ℕ) → 97 ≤ d → d ≤ 102 → IsDigit (digit_value d) d
at_lower d from to =
    let e : digit_value d ≡ d - 87 =
    value_lower (d - 87) d (omega arith) (omega arith) (omega arith) in
    subst (λ (v : ℕ). IsDigit v d) (sym e) (inr (omega arith, omega arith, inl (omega arith)))

digit_of : (d : ℕ) → IsHexDigit d → IsDigit (digit_value d) d
digit_of d (inl h) = at_low d h.0 h.1
digit_of d (inr (inl h)) = at_upper d h.0 h.1
digit_of d (inr (inr h)) = at_lower d h.0 h.1

within : (v d : ℕ) → IsDigit v d → v ≤ 15
within v d (inl h) = omega (arith, h.0)
within v d (inr h) = h.1

-- the value of a hexadecimal digit is at most 15
pub value_small : (d : ℕ) → IsHexDigit d → digit_value d ≤ 15
value_small d h = within (digit_value d) d (digit_of d h)

-- ---- all digits of a word

high_of : (h l : ℕ) → l ≤ 15 → (16 * h + l) / 16 ≡ h
high_of h l small = omega arith

low_of : (h l : ℕ) → l ≤ 15 → (16 * h + l) % 16 ≡ l
low_of h l small = omega arith

even_less : (n : ℕ) → suc (suc n) % 2 ≡ 0 → n % 2 ≡ 0
even_less n e = omega (arith, e)

even_more : (n : ℕ) → n % 2 ≡ 0 → suc (suc n) % 2 ≡ 0
even_more n e = omega (arith, e)

odd_one : 1 % 2 ≡ 0 → ⊥
odd_one e = omega (arith, e)

-- pairs of digits are the digits of the bytes that they encode
pub are_digits : (digits : List ℕ) → ArePairs digits → AreDigits (bytes_of digits) digits
are_digits [] p = refl
are_digits (digit ∷ []) p = absurd (odd_one p.0)
are_digits (h ∷ l ∷ digits) p =
    let small = value_small l p.1.1.0 in (
      h,
      l,
      digits,
      refl,
      subst (λ (v : ℕ). IsDigit v h) (sym (high_of (digit_value h) (digit_value l) small))
          (digit_of h p.1.0),
      subst (λ (v : ℕ). IsDigit v l) (sym (low_of (digit_value h) (digit_value l) small))
          (digit_of l p.1.1.0),
      are_digits digits (even_less (length digits) p.0, p.1.1.1),
    )

-- at least one pair of digits is a word for the bytes that they encode
pub is_word : (digits : List ℕ) → 0 < length digits → ArePairs digits
    → IsHexWord (bytes_of digits) digits
is_word [] some p = absurd (omega (arith, some))
is_word (digit ∷ []) some p = absurd (odd_one p.0)
is_word (h ∷ l ∷ digits) some p = are_digits (h ∷ l ∷ digits) p

-- the digits of bytes are pairs of digits
pub are_pairs : (bytes digits : List ℕ) → AreDigits bytes digits → ArePairs digits
are_pairs [] digits e = subst ArePairs (sym e) (refl, tt)
are_pairs (byte ∷ bytes) digits d =
    let more = are_pairs bytes d.2 d.6 in
    subst ArePairs (sym d.3) (
      even_more (length d.2) more.0,
      (is_hex (byte / 16) d.0 d.4, (is_hex (byte % 16) d.1 d.5, more.1)),
    )

-- only pairs of digits, or a hyphen alone, stand for bytes
pub only_pairs : (bytes word : List ℕ) → IsHexWord bytes word → (ArePairs word → ⊥)
    → (word ≡ 45 ∷ [] → ⊥) → ⊥
only_pairs [] word w pairs hyphen = hyphen w
only_pairs (byte ∷ bytes) word w pairs hyphen = pairs (are_pairs (byte ∷ bytes) word w)

-- the empty word doesn't stand for bytes
pub no_word : (bytes word : List ℕ) → length word ≡ 0 → IsHexWord bytes word → ⊥
no_word [] word e w = omega (arith, e, ap length w)
no_word (byte ∷ bytes) word e w = omega (arith, e, ap length w.3)

-- a word of odd length, except for a hyphen, stands for no bytes
pub odd_word : (bytes word : List ℕ) → length word % 2 ≢ 0 → word ≢ 45 ∷ [] → IsHexWord bytes word
    → ⊥
odd_word bytes word odd hyphen w = only_pairs bytes word w (λ p. odd p.0) hyphen

-- a word with a byte that is no digit, except for a hyphen, stands for no bytes
pub other_word : (all : Bool) (bytes word : List ℕ) → (IsTrue all ↔ AllByRecursion IsHexDigit word)
    → all ≡ false → word ≢ 45 ∷ [] → IsHexWord bytes word → ⊥
other_word all bytes word tells none hyphen w =
    only_pairs bytes word w (λ p. let f : all ≡ true = tells.1 p.1 in absurd (cc)) hyphen

-- a word of digits, in a number that is even and not 0, stands for the bytes that they encode
pub digits_word : (all : Bool) (word : List ℕ) → length word ≢ 0 → length word % 2 ≡ 0
    → (IsTrue all ↔ AllByRecursion IsHexDigit word) → all ≡ true → IsHexWord (bytes_of word) word
digits_word all word some even tells is = is_word word (above (length word) some) (even, tells.0 is)
  where
    above : (n : ℕ) → n ≢ 0 → 0 < n
    above n not = omega arith

-- ---- a word spells one list of bytes

whole : (byte h l : ℕ) → byte / 16 ≡ h → byte % 16 ≡ l → byte ≡ 16 * h + l
whole byte h l e f = omega arith

the_bytes : (bytes digits : List ℕ) → AreDigits bytes digits → bytes ≡ bytes_of digits
the_bytes [] digits e = sym (ap bytes_of e)
the_bytes (byte ∷ bytes) digits d =
    ap₂ (λ (b : ℕ) (bs : List ℕ). b ∷ bs)
    (whole byte _ _ (sym (value_of_digit (byte / 16) d.0 d.4))
    (sym (value_of_digit (byte % 16) d.1 d.5))) (the_bytes bytes d.2 d.6)
    ∙ sym (ap bytes_of d.3)

hyphen_none : (byte : ℕ) (bytes word : List ℕ) → AreDigits (byte ∷ bytes) word → word ≡ 45 ∷ [] → ⊥
hyphen_none byte bytes word d e = let f = d.3 in absurd (cc)

-- a word stands for only one list of bytes
pub same_bytes : (bytes others word : List ℕ) → IsHexWord bytes word → IsHexWord others word
    → bytes ≡ others
same_bytes [] [] word w v = refl
same_bytes [] (byte ∷ bytes) word w v = absurd (hyphen_none byte bytes word v w)
same_bytes (byte ∷ bytes) [] word w v = absurd (hyphen_none byte bytes word w v)
same_bytes (byte ∷ bytes) (other ∷ others) word w v =
    the_bytes (byte ∷ bytes) word w ∙ sym (the_bytes (other ∷ others) word v)

-- ---- two digits at a time

two_more : (digits : List ℕ) (at : ℕ) → 2 * at + 1 < length digits
    → bytes_of (drop (2 * at) digits) ≡ byte_of (get_or digits (2 * at) 0)
    (get_or digits (2 * at + 1) 0) ∷ bytes_of (drop (2 * (at + 1)) digits)
two_more digits at within =
    ap bytes_of (
    drop_more digits (2 * at) 0 (omega arith)
    ∙ ap (λ (rest : List ℕ). get_or digits (2 * at) 0 ∷ rest)
    (drop_more digits (2 * at + 1) 0 within)
    ∙ ap (λ (n : ℕ). get_or digits (2 * at) 0 ∷ get_or digits (2 * at + 1) 0 ∷ drop n digits)
    (omega arith)
    )

-- two more digits are read
pub decode_more : (done digits : List ℕ) (at byte : ℕ) → 2 * at + 1 < length digits
    → byte ≡ byte_of (get_or digits (2 * at) 0) (get_or digits (2 * at + 1) 0)
    → done ++ bytes_of (drop (2 * at) digits) ≡ bytes_of digits
    → (done ++ byte ∷ []) ++ bytes_of (drop (2 * (at + 1)) digits) ≡ bytes_of digits
decode_more done digits at byte within e so_far =
    append_assoc done (byte ∷ []) (bytes_of (drop (2 * (at + 1)) digits))
    ∙ ap (λ (b : ℕ). done ++ b ∷ bytes_of (drop (2 * (at + 1)) digits)) e
    ∙ ap (λ (bs : List ℕ). done ++ bs) (sym (two_more digits at within))
    ∙ so_far
