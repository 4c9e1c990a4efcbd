-- A node that is neither as it was nor as its store has it.
use Rattle.urb_ahead_examples.proofs.Common.{IsOrStandsFor, [], arith, certified, image_of, limits}
use Rattle.urb_ahead_examples.proofs.Common.{opened, opened_node, pending, started, ◌∷◌}
use Rattle.std.proofs.lemmas.Grind.{common_steps}
use Rattle.urb_ahead_examples.proofs.worked.worlds_as_stored.worlds_unlike_the_stores.Goals as goal

misfit-of-three :
    IsOrStandsFor (started (limits 3 10)) 1 (opened_node 1 (certified 1 1 ∷ [])) → ⊥
misfit-of-three e = grind (arith, common_steps, e)

misfit-of-four : IsOrStandsFor (started (limits 4 10)) 1 (opened_node 1 (certified 1 1 ∷ [])) → ⊥
misfit-of-four e = grind (arith, common_steps, e)

lost :
    IsOrStandsFor (opened (limits 7 10) (image_of ((pending 1 1 ∷ []) ∷ []))) 1 (opened_node 1 [])
    → ⊥
lost e = grind (arith, common_steps, e)

unknown : IsOrStandsFor (started (limits 3 10)) 2 (opened_node 2 (pending 1 1 ∷ [])) → ⊥
unknown e = grind (arith, common_steps, e)

fifth : IsOrStandsFor (started (limits 4 10)) 5 (opened_node 5 (pending 5 1 ∷ [])) → ⊥
fifth e = grind (arith, common_steps, e)

pub returns-clause-a_misfit_of_three : goal.returns-clause-a_misfit_of_three
returns-clause-a_misfit_of_three c stored = misfit-of-three (stored.nodes 1)

pub returns-clause-a_misfit_of_four : goal.returns-clause-a_misfit_of_four
returns-clause-a_misfit_of_four c stored = misfit-of-four (stored.nodes 1)

pub returns-clause-a_record_is_lost : goal.returns-clause-a_record_is_lost
returns-clause-a_record_is_lost c stored = lost (stored.nodes 1)

pub returns-clause-a_pair_that_its_sender_has_ahead :
    goal.returns-clause-a_pair_that_its_sender_has_ahead
returns-clause-a_pair_that_its_sender_has_ahead c stored = unknown (stored.nodes 2)

pub returns-clause-a_fifth_of_four : goal.returns-clause-a_fifth_of_four
returns-clause-a_fifth_of_four c stored = fifth (stored.nodes 5)
