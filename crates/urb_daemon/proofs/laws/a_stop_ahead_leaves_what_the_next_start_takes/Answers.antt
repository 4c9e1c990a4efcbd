use Rattle.sqlite.specs.Files.{file_state}
use Rattle.urb_daemon.proofs.ResumedRuns.{ahead_over}
use Rattle.urb_daemon.proofs.laws.a_stop_ahead_leaves_what_the_next_start_takes.Goals as goal
use Rattle.urb_sqlite.proofs.FoundRecords.{left_as_held}

pub returns : goal.returns
returns g c held old w size sound counted nodes shows places would stopped none =
    ahead_over _ w c.args.journals.now would (λ j. (file_state j.journal.conn).may_leave)
    (λ j P leaves image db may holds.
    left_as_held (file_state j.journal.conn) P leaves image db may holds) held old size sound
    counted nodes shows places stopped none
