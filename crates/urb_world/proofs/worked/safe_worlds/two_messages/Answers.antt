-- Two nodes hold different messages under one name.
use Rattle.urb_world.proofs.Common.{Content, ap, arith, filled, message, name, refl, ◌≡◌}
use Rattle.urb_world.proofs.worked.safe_worlds.two_messages.Goals as goal

-- messages with the client's numbers 1 and 2 differ
differ : (m o : Content) → m ≡ o → m.number ≡ 1 → o.number ≡ 2 → ⊥
differ m o e first second =
    let same : m.number ≡ o.number = ap (λ (n : Content). n.number) e in
    omega (arith, same, first, second)

pub returns-clause-of_three : goal.returns-clause-of_three
returns-clause-of_three c one =
    differ _ _ (one 1 3 (name 1 1) (message 7 1 "") (message 7 2 "") refl refl) refl refl

pub returns-clause-of_four : goal.returns-clause-of_four
returns-clause-of_four c one =
    differ _ _ (one 1 4 (name 1 1) (message 7 1 "") (message 7 2 "") refl refl) refl refl

pub returns-clause-of_six : goal.returns-clause-of_six
returns-clause-of_six c one =
    differ _ _ (one 1 6 (name 1 1) (message 7 1 "") (message 7 2 "") refl refl) refl refl

pub returns-clause-of_seven : goal.returns-clause-of_seven
returns-clause-of_seven c one =
    differ _ _ (one 1 7 (name 1 1) (message 7 1 "") (message 7 2 "") refl refl) refl refl

pub returns-clause-of_long_payloads : goal.returns-clause-of_long_payloads
returns-clause-of_long_payloads c one =
    differ _ _ (one 1 2 (name 1 1) (filled 7 1 1001) (filled 7 2 1001) refl refl) refl refl
