-- Groups of stations like one, and a last one.
use Rattle.std.proofs.Common.{arith, suc, zero, ℕ}
use Rattle.urb_link.specs.declared.stations.Station.{Station}
use Rattle.urb_options.specs.declared.door_options.DoorOptions.{DoorOptions}
use Rattle.urb_daemon.specs.Doors.{HasDoors, HaveDoors}
use Rattle.urb_daemon.specs.internal.DaemonExamples.{ending}
use Rattle.urb_daemon.proofs.worked.services.groups_with_their_doors.Goals as goal

each : (doors : DoorOptions) (it last : Station) (count : ℕ) → HasDoors doors it
    → HasDoors doors last → HaveDoors doors (ending count it last)
each doors it last zero has ends zero d low = ends
each doors it last zero has ends (suc k) d low = absurd (omega (arith, low))
each doors it last (suc count) has ends zero d low = has
each doors it last (suc count) has ends (suc k) d low =
    each doors it last count has ends k d (omega (arith, low))

pub returns-clause-of_one : goal.returns-clause-of_one
returns-clause-of_one c doors it has = each doors it it 0 has has

pub returns-clause-of_three : goal.returns-clause-of_three
returns-clause-of_three c doors it last has ends = each doors it last 2 has ends

pub returns-clause-of_four : goal.returns-clause-of_four
returns-clause-of_four c doors it last has ends = each doors it last 3 has ends

pub returns-clause-of_six : goal.returns-clause-of_six
returns-clause-of_six c doors it last has ends = each doors it last 5 has ends

pub returns-clause-of_seven : goal.returns-clause-of_seven
returns-clause-of_seven c doors it last has ends = each doors it last 6 has ends
