-- Lines with a count.
use Rattle.std.proofs.Common.{inl, refl}
use Rattle.std.specs.Fmt.{digits}
use Rattle.urb_daemon.proofs.worked.run_ends.what_ends_show.Goals as goal

pub returns-clause-a_line_of_no_event : goal.returns-clause-a_line_of_no_event
unfolding digits
returns-clause-a_line_of_no_event c = inl (refl, refl)

pub returns-clause-a_line_of_twelve_events : goal.returns-clause-a_line_of_twelve_events
unfolding digits
returns-clause-a_line_of_twelve_events c = inl (refl, refl)
