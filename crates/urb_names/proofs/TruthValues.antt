-- Truth values that are equal: tests of numbers in either order, and of an option.
use Rattle.std.proofs.Common.{Bool, None, Option, Some, eq-eqb, eqb-true, false, is_some, ne_eqb}
use Rattle.std.proofs.Common.{refl, sym, true, ℕ, ◌==◌, ◌||◌, ◌≡◌}
use Rattle.std.proofs.lemmas.Bool.{eqb-false}
use Rattle.std.specs.Prelude.{option_map}

-- two truth values are equal if each follows from the other
pub both_ways : (a b : Bool) → (a ≡ true → b ≡ true) → (b ≡ true → a ≡ true) → a ≡ b
both_ways true b h k = sym (h refl)
both_ways false true h k = k refl
both_ways false false h k = refl

-- of three alternatives, the first two may change places
pub or_swap : (a b c : Bool) → (a || (b || c)) ≡ (b || (a || c))
or_swap true true c = refl
or_swap true false c = refl
or_swap false true c = refl
or_swap false false c = refl

-- two numbers are compared in either order
pub eqb-turned : (a b : ℕ) → (a == b) ≡ (b == a)
eqb-turned a b = at (a == b) refl
  where
    at : (c : Bool) → (a == b) ≡ c → c ≡ (b == a)
    at true e = sym (eq-eqb b a (sym (eqb-true a b e)))
    at false e = sym (ne_eqb b a (λ f. eqb-false a b e (sym f)))

-- an option is Some exactly if it is after its value was changed
pub mapped_some : {X Y : Type 0} (f : X → Y) (found : Option X)
    → is_some (option_map f found) ≡ is_some found
mapped_some f None = refl
mapped_some f (Some x) = refl
