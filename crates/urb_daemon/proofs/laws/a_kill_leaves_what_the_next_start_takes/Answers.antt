use Rattle.std.proofs.Common.{[], false}
use Rattle.sqlite.specs.Files.{file_state}
use Rattle.urb_daemon.proofs.FilesAtKills.{killed_files}
use Rattle.urb_daemon.proofs.laws.a_kill_leaves_what_the_next_start_takes.Goals as goal
use Rattle.urb_sqlite.proofs.FoundRecords.{left_as_held}

pub returns : goal.returns
returns g c held first old start past size sound shows leads counted nodes places killed
    stopped none =
    killed_files (record {
      certain = _;
      doubt = _;
      is_doubtful = _;
      place = _;
      failures = _;
      is_clean = _;
      is_honest = _;
      is_shut = _;
      leaves_only = _;
      stores = _;
      answers = _;
      ahead = λ j. [];
      base = λ j. [];
      can_hold = λ j records. false;
    }) first start past sound shows
    c.args.stores.now killed
    (λ j. (file_state j.journal.conn).may_leave)
    (λ j P leaves image db may holds.
    left_as_held (file_state j.journal.conn) P leaves image db may holds) held old size leads
    counted nodes places stopped none
