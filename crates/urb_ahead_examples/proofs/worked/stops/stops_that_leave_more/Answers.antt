use Rattle.urb_ahead_examples.proofs.Common.{None, [], inl, inr, refl, ⊎_elim, ◌∷◌}
use Rattle.urb_ahead_examples.proofs.worked.stops.stops_that_leave_more.Goals as goal

pub returns-clause-a_record : goal.returns-clause-a_record
returns-clause-a_record c r no_more =
    let left = no_more.contents [] None refl in absurd (cc)

pub returns-clause-a_record_of_two : goal.returns-clause-a_record_of_two
returns-clause-a_record_of_two c r s no_more =
    ⊎_elim (λ one. absurd (cc)) (λ two. absurd (cc))
    (no_more.together (r ∷ s ∷ []) [] None (inl refl, inr refl)).1
