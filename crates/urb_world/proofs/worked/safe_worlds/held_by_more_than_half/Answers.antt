-- A majority holds the message.
use Rattle.urb_world.proofs.Common.{message, refl}
use Rattle.urb_world.proofs.worked.safe_worlds.held_by_more_than_half.Goals as goal

pub returns-clause-one_of_one : goal.returns-clause-one_of_one
returns-clause-one_of_one c = (message 7 1 "", refl, refl)

pub returns-clause-two_of_three : goal.returns-clause-two_of_three
returns-clause-two_of_three c = (message 7 1 "", refl, refl)

pub returns-clause-three_of_four : goal.returns-clause-three_of_four
returns-clause-three_of_four c = (message 7 1 "", refl, refl)

pub returns-clause-four_of_six : goal.returns-clause-four_of_six
returns-clause-four_of_six c = (message 7 1 "", refl, refl)

pub returns-clause-four_of_seven : goal.returns-clause-four_of_seven
returns-clause-four_of_seven c = (message 7 1 "", refl, refl)
