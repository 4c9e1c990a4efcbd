-- One station of a group has other doors.
use Rattle.std.proofs.Common.{arith}
use Rattle.urb_daemon.proofs.worked.services.groups_with_other_doors.Goals as goal

pub returns-clause-at_a_single_one : goal.returns-clause-at_a_single_one
returns-clause-at_a_single_one c doors it lacks all = lacks (all 0 it (omega arith))

pub returns-clause-at_the_first_of_four : goal.returns-clause-at_the_first_of_four
returns-clause-at_the_first_of_four c doors it last lacks all = lacks (all 0 it (omega arith))

pub returns-clause-at_the_last_of_three : goal.returns-clause-at_the_last_of_three
returns-clause-at_the_last_of_three c doors it last lacks all = lacks (all 2 it (omega arith))

pub returns-clause-at_the_last_of_four : goal.returns-clause-at_the_last_of_four
returns-clause-at_the_last_of_four c doors it last lacks all = lacks (all 3 it (omega arith))

pub returns-clause-at_the_last_of_six : goal.returns-clause-at_the_last_of_six
returns-clause-at_the_last_of_six c doors it last lacks all = lacks (all 5 it (omega arith))

pub returns-clause-at_the_last_of_seven : goal.returns-clause-at_the_last_of_seven
returns-clause-at_the_last_of_seven c doors it last lacks all = lacks (all 6 it (omega arith))
