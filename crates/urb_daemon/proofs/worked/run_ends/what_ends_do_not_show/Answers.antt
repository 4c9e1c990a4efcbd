-- Lines that aren't the only one of twelve events.
use Rattle.urb_daemon.proofs.worked.run_ends.what_ends_do_not_show.Goals as goal
use Rattle.std.proofs.Common.{rules}
use Rattle.std.specs.Fmt.{digits}

pub returns-clause-a_line_of_another_count : goal.returns-clause-a_line_of_another_count
unfolding digits
returns-clause-a_line_of_another_count c = search rules

pub returns-clause-a_line_twice : goal.returns-clause-a_line_twice
unfolding digits
returns-clause-a_line_twice c = search rules
