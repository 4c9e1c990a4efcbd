-- Flags and their numbers, both ways.
use Rattle.std.proofs.Common.{◌≡◌, ◌<◌, ℕ, suc, zero, Bool, true, false, ap, arith, refl, sym, ◌∙◌}
use Rattle.urb_names.specs.declared.flags.Flags.{Flags}
use Rattle.urb_names.specs.PacketGrammar.{flags_number, flags_said}

-- a number of at most three is the number of the flags that it encodes
pub number_again : (number : ℕ) → number < 4 → number ≡ flags_number (flags_said number)
number_again zero h = refl
number_again (suc zero) h = refl
number_again (suc (suc zero)) h = refl
number_again (suc (suc (suc zero))) h = refl
number_again (suc (suc (suc (suc more)))) h = absurd (omega (arith, h))

-- flags are those that their number encodes
pub said_again : (flags : Flags) → flags_said (flags_number flags) ≡ flags
said_again flags = at flags.certified flags.heard
  where
    at : (certified heard : Bool)
        → flags_said (flags_number (record { certified = certified; heard = heard })) ≡ record
        { certified = certified; heard = heard }
    at true true = refl
    at true false = refl
    at false true = refl
    at false false = refl

-- the number is at most three
pub number_below : (flags : Flags) → flags_number flags < 4
number_below flags = at flags.certified flags.heard
  where
    at : (certified heard : Bool)
        → flags_number (record { certified = certified; heard = heard }) < 4
    at true true = omega arith
    at true false = omega arith
    at false true = omega arith
    at false false = omega arith

-- flags with the same number are the same
pub same_flags : (flags other : Flags) → flags_number flags ≡ flags_number other → flags ≡ other
same_flags flags other e = sym (said_again flags) ∙ ap flags_said e ∙ said_again other
