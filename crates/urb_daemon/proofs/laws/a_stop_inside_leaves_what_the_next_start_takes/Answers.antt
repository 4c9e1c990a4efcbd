use Rattle.std.proofs.Common.{[], false}
use Rattle.sqlite.specs.Files.{file_state}
use Rattle.urb_daemon.proofs.FilesInside.{inside_files}
use Rattle.urb_daemon.proofs.laws.a_stop_inside_leaves_what_the_next_start_takes.Goals as goal
use Rattle.urb_sqlite.proofs.FoundRecords.{left_as_held}

pub returns : goal.returns
returns g c held old w size sound counted nodes shows places would tails stopped none =
    inside_files (record {
      certain = _;
      doubt = _;
      is_doubtful = _;
      place = _;
      failures = _;
      is_clean = _;
      is_honest = _;
      is_shut = _;
      leaves_only = _;
      stores = _;
      answers = _;
      ahead = λ j. [];
      base = λ j. [];
      can_hold = λ j records. false;
    }) w c.args.stores.now would tails
    (λ j. (file_state j.journal.conn).may_leave)
    (λ j P leaves image db may holds.
    left_as_held (file_state j.journal.conn) P leaves image db may holds) held old size sound
    counted nodes shows places stopped none
