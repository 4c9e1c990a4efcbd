-- A name that the node holds comes with the same message alone.
use Rattle.std.proofs.Common.{[], ap, refl, suc, ℕ, ◌≡◌}
use Rattle.urb_names.specs.LabelsAndContents.{Content}
use Rattle.urb_world.specs.internal.Scripts.{message}
use Rattle.std.specs.Prelude.{replicate}
use Rattle.urb_world.specs.internal.Examples.{filled}
use Rattle.urb_step_examples.proofs.worked.node_questions.pairs_that_may_come.Goals as goal

-- a payload of one byte or more isn't empty
long : (count : ℕ) → replicate {A = ℕ} (suc count) 120 ≡ [] → ⊥
long count e = absurd (cc)

pub returns-clause-another_message : goal.returns-clause-another_message
returns-clause-another_message c h =
    let e = ap (λ (m : Content). m.payload) (h.same (message 7 1 "") refl) in absurd (cc)

pub returns-clause-another_message_than_a_long_one :
    goal.returns-clause-another_message_than_a_long_one
returns-clause-another_message_than_a_long_one c h =
    long 1000 (ap (λ (m : Content). m.payload) (h.same (filled 7 1 1001) refl))
