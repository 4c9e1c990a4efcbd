-- A group whose node holds nothing doesn't show a world in which this node has a record.
use Rattle.std.proofs.Common.{arith}
use Rattle.urb_group.proofs.worked.shown.what_groups_do_not_show.Goals as goal

pub returns-clause-a_record_in_three : goal.returns-clause-a_record_in_three
returns-clause-a_record_in_three c shows = let count = (shows.nodes 3).count in omega (arith, count)

pub returns-clause-a_record_in_four : goal.returns-clause-a_record_in_four
returns-clause-a_record_in_four c shows = let count = (shows.nodes 4).count in omega (arith, count)

pub returns-clause-a_record_in_seven : goal.returns-clause-a_record_in_seven
returns-clause-a_record_in_seven c shows = let count = (shows.nodes 7).count in omega (arith, count)
