-- Nodes that aren't up, or aren't nodes of the group.
use Rattle.urb_world.proofs.Common.{false≢true, refl, sym}
use Rattle.urb_world.proofs.worked.delivery.nodes_that_are_up.Goals as goal

pub returns-clause-the_last_of_four_is_down : goal.returns-clause-the_last_of_four_is_down
returns-clause-the_last_of_four_is_down c up = false≢true (sym (up 4 refl))

pub returns-clause-the_last_of_seven_is_down : goal.returns-clause-the_last_of_seven_is_down
returns-clause-the_last_of_seven_is_down c up = false≢true (sym (up 7 refl))

pub returns-clause-five_of_four : goal.returns-clause-five_of_four
returns-clause-five_of_four c up = false≢true (up 5 refl).0

pub returns-clause-eight_of_seven : goal.returns-clause-eight_of_seven
returns-clause-eight_of_seven c up = false≢true (up 8 refl).0

pub returns-clause-some_that_are_down : goal.returns-clause-some_that_are_down
returns-clause-some_that_are_down c up = false≢true (sym (up 1 refl).1)
