-- The numbers read from the values that the parser found.
use Rattle.urb_options.proofs.Common.{Bool, Err, List, None, Ok, Option, ParsesUnsigned, Result}
use Rattle.urb_options.proofs.Common.{Some, [], and_parts, ap, arith, cond, false, length, nat_le}
use Rattle.urb_options.proofs.Common.{nat_lt, option_and_then, refl, true, ℕ, ◌&&◌, ◌<◌, ◌^◌, ◌∙◌}
use Rattle.urb_options.proofs.Common.{◌∷◌, ◌≡◌, ◌≤◌}
use Rattle.std.specs.List.{list_all}
use Rattle.std.specs.Char.{digit_value}
use Rattle.std.specs.Str.Parse.{AllDigits, IsNumeral, digits_value, without_leading_plus}
use Rattle.std.proofs.lemmas.Bool.{leb-true, lt-ltb, ltb-true}
use Rattle.clap.specs.Words.{Text, one_text, rows_of}
use Rattle.clap.proofs.WalkLemmas.{one_text-rows}
use Rattle.clap.specs.Matches.{ReadsOne}
use Rattle.clap.specs.declared.parser.matches.Found.{Found}
use Rattle.urb_options.specs.Tasks.{is_decimal, number_in, number_of}

digits_pass : (ds : List ℕ) → AllDigits 10 ds → list_all (λ d. nat_lt (digit_value d) 10) ds ≡ true
digits_pass [] h = refl
digits_pass (d ∷ ds) h = rw (lt-ltb (digit_value d) 10 h.0) (digits_pass ds h.1)

digits_from : (ds : List ℕ) → list_all (λ d. nat_lt (digit_value d) 10) ds ≡ true → AllDigits 10 ds
digits_from [] e = tt
digits_from (d ∷ ds) e =
    let parts = and_parts _ _ e in
    (ltb-true _ _ parts.0, digits_from ds parts.1)

-- a numeral passes the test, and whatever passes is a numeral
numeral_passes : (ds : List ℕ) → IsNumeral 10 ds → is_decimal ds ≡ true
numeral_passes ds h = rw (lt-ltb 0 (length ds) h.0) (digits_pass ds h.1)

numeral_from : (ds : List ℕ) → is_decimal ds ≡ true → IsNumeral 10 ds
numeral_from ds e =
    let parts = and_parts _ _ e in
    (ltb-true _ _ parts.0, digits_from ds parts.1)

-- the number that was read, if it is within these bounds
abbrev bounded : ℕ → ℕ → Option ℕ → Option ℕ
bounded low high = option_and_then (λ n. cond (nat_le low n && nat_le n high) (Some n) None)

-- the number that was read from a text, if it is within the bounds, is that of the text
pub number_read : {E : Type 0} (G : List ℕ → Result ℕ E → Type 0) (low high : ℕ) (text : Text)
    (r : Option ℕ)
    → ReadsOne G text r → ((u : List ℕ) (x : Result ℕ E) → G u x → ParsesUnsigned 32 10 u x)
    → high < 2 ^ 32
    → bounded low high r ≡ number_in low high text
number_read G low high text (Some n) reads only fits =
    let h = only text (Ok n) reads in
    let ds = without_leading_plus text in
    rw (numeral_passes ds h.0.0, h.1) refl
number_read G low high text None reads only fits =
    go (is_decimal ds) (nat_le low value && nat_le value high) refl refl
  where
    ds : List ℕ
    ds = without_leading_plus text

    value : ℕ
    value = digits_value 10 ds

    go : (a b : Bool) → is_decimal ds ≡ a → (nat_le low value && nat_le value high) ≡ b
        → None ≡ number_in low high text
    go true true d e =
        let small : value ≤ high = leb-true _ _ (and_parts _ _ e).1 in
        absurd (only text (Err reads.0) reads.1 (numeral_from ds d, omega arith))
    go true false d e = rw (d, e) refl
    go false b d e = rw d refl

-- the number of an option that the parser found
pub number_found : {E : Type 0} (G : List ℕ → Result ℕ E → Type 0) (low high : ℕ) (found : Found)
    (name : Text) (r : Option ℕ)
    → (one_text found name ≡ None → r ≡ None)
    → ((t : List ℕ) → one_text found name ≡ Some t → ReadsOne G t r)
    → ((u : List ℕ) (x : Result ℕ E) → G u x → ParsesUnsigned 32 10 u x) → high < 2 ^ 32
    → bounded low high r ≡ number_of name low high (rows_of found)
number_found G low high found name r none some only fits =
    go (one_text found name) refl
    ∙ ap (option_and_then (number_in low high)) (one_text-rows found name)
  where
    go : (o : Option Text) → one_text found name ≡ o
        → bounded low high r ≡ option_and_then (number_in low high) o
    go None e = ap (bounded low high) (none e)
    go (Some t) e = number_read G low high t r (some t e) only fits
