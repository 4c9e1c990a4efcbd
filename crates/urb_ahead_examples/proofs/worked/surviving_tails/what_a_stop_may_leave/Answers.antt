-- What a stop may leave of a node: its records, followed by a beginning of a tail that may follow.
use Rattle.urb_ahead_examples.proofs.Common.{[], inl, inr, pending, refl, ◌∷◌}
use Rattle.urb_ahead_examples.specs.internal.ExampleStores.{two_pending}
use Rattle.urb_ahead_examples.proofs.worked.surviving_tails.what_a_stop_may_leave.Goals as goal

pub returns-clause-one_in_three : goal.returns-clause-one_in_three
returns-clause-one_in_three c = inr (two_pending, search, inr (inl refl))

pub returns-clause-two_in_four : goal.returns-clause-two_in_four
returns-clause-two_in_four c = inr (two_pending, search, inr (inr refl))

pub returns-clause-one_of_the_fourth : goal.returns-clause-one_of_the_fourth
returns-clause-one_of_the_fourth c = inr (pending 4 1 ∷ [], search, inr refl)

pub returns-clause-behind_a_record_in_seven : goal.returns-clause-behind_a_record_in_seven
returns-clause-behind_a_record_in_seven c = inr (pending 1 2 ∷ [], search, inr refl)

pub returns-clause-one_of_a_node_that_is_down : goal.returns-clause-one_of_a_node_that_is_down
returns-clause-one_of_a_node_that_is_down c = inr (pending 1 1 ∷ [], search, inr refl)
