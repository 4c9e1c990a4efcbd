-- A list begins another one, or it doesn't.
use Rattle.urb_world.proofs.Common.{Label, List, OneBegins, [], ap, arith, inl, inr, name, names}
use Rattle.urb_world.proofs.Common.{refl, sym, zero, ℕ, ◌∷◌, ◌≡◌}
use Rattle.urb_world.proofs.worked.names.beginnings.Goals as goal

-- the sender of the first name
abbrev first_sender : List Label → ℕ
first_sender [] = zero
first_sender (x ∷ xs) = x.sender

-- the names behind the first
abbrev behind : List Label → List Label
behind [] = []
behind (x ∷ xs) = xs

no_name : (x : Label) (xs : List Label) → x ∷ xs ≡ [] → ⊥
no_name x xs e = cc

no_number : (m n : ℕ) → m ≡ n → m ≡ 1 → n ≡ 2 → ⊥
no_number m n e f g = omega (arith, e, f, g)

no_agreement : OneBegins (names 1 2) (names 2 1) → ⊥
no_agreement (inl begins) = no_number _ _ (ap first_sender begins.1) refl refl
no_agreement (inr begins) = no_number _ _ (sym (ap first_sender begins.1)) refl refl

pub returns-clause-of_a_longer_one : goal.returns-clause-of_a_longer_one
returns-clause-of_a_longer_one c = (name 1 2 ∷ [], refl)

pub returns-clause-of_itself : goal.returns-clause-of_itself
returns-clause-of_itself c = ([], refl)

pub returns-clause-of_a_shorter_one : goal.returns-clause-of_a_shorter_one
returns-clause-of_a_shorter_one c begins = no_name (name 1 2) begins.0 (ap behind begins.1)

pub returns-clause-of_another_one : goal.returns-clause-of_another_one
returns-clause-of_another_one c begins =
    no_number _ _ (sym (ap first_sender begins.1)) refl refl

pub returns-clause-neither : goal.returns-clause-neither
returns-clause-neither c one = no_agreement one
