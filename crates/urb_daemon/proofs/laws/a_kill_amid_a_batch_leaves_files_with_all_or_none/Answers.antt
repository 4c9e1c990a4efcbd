use Rattle.std.proofs.Common.{[], false}
use Rattle.sqlite.specs.Files.{file_state}
use Rattle.urb_daemon.proofs.FilesAtKills.{batch_files}
use Rattle.urb_daemon.proofs.laws.a_kill_amid_a_batch_leaves_files_with_all_or_none.Goals as goal
use Rattle.urb_sqlite.proofs.FoundRecords.{left_as_held}

pub returns : goal.returns
returns g c image first start past n batch before sound shows holding stopped =
    batch_files
    (record {
      certain = _;
      doubt = _;
      is_doubtful = _;
      place = _;
      failures = _;
      is_clean = _;
      is_honest = _;
      is_shut = _;
      leaves_only = _;
      stores = _;
      answers = _;
      ahead = λ j. [];
      base = λ j. [];
      can_hold = λ j records. false;
    })
    first start past sound shows n batch before c.args.store.now holding
    (file_state c.args.store.now.store.journal.conn).may_leave
    (λ P leaves image db may holds.
    left_as_held (file_state c.args.store.now.store.journal.conn) P leaves image db may holds)
    image stopped
