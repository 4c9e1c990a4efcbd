use Rattle.urb_world.proofs.Common.{Begins, Content, Label, List, None, OneBegins, Option, Some, []}
use Rattle.urb_world.proofs.Common.{ap, inl, inr, message, name, ℕ, ◌∷◌, ◌≡◌}
use Rattle.urb_world.proofs.worked.meanings.logs_have_messages.Goals as goal

-- the log of one name, with this message
abbrev one_entry : Content → List (Label × Option Content)
one_entry m = (name 1 1, Some m) ∷ []

-- the payload of the first entry of a log
abbrev payload_of_first : List (Label × Option Content) → List ℕ
payload_of_first [] = []
payload_of_first ((x, None) ∷ rest) = []
payload_of_first ((x, Some m) ∷ rest) = m.payload

-- the two logs differ in their message, so the one without a payload isn't a prefix of the other
no_beginning : Begins (one_entry (message 7 1 "")) (one_entry (message 7 1 "a")) → ⊥
no_beginning begins =
    let payload : Content → List ℕ = λ m. m.payload in
    let same : payload (message 7 1 "") ≡ payload (message 7 1 "a") =
    ap payload_of_first begins.1 in cc

-- nor is the other a prefix of it
no_beginning_of_other : Begins (one_entry (message 7 1 "a")) (one_entry (message 7 1 "")) → ⊥
no_beginning_of_other begins =
    let payload : Content → List ℕ = λ m. m.payload in
    let same : payload (message 7 1 "a") ≡ payload (message 7 1 "") =
    ap payload_of_first begins.1 in cc

-- so neither is a prefix of the other
no_agreement : OneBegins (one_entry (message 7 1 "")) (one_entry (message 7 1 "a")) → ⊥
no_agreement (inl begins) = no_beginning begins
no_agreement (inr begins) = no_beginning_of_other begins

pub returns-clause-agree : goal.returns-clause-agree
returns-clause-agree c agree = no_agreement agree

pub returns-clause-goes_on : goal.returns-clause-goes_on
returns-clause-goes_on c goes_on = no_beginning (goes_on.entries 1)
