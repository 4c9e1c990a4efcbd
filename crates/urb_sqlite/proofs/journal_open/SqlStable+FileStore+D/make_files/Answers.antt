use Rattle.urb_sqlite.proofs.Common.{IfOk-weaker, file_state, journal_name, second_name}
use Rattle.urb_sqlite.proofs.JournalSchemas.{bare_lacks}
use Rattle.urb_sqlite.proofs.KeptRecords.{earlier_clean}
use Rattle.urb_sqlite.proofs.journal_open.SqlStable+FileStore+D.make_files.Goals as goal

pub returns-in-Ok-clause-clean : goal.returns-in-Ok-clause-clean
returns-in-Ok-clause-clean g c =
    IfOk-weaker c.adopt_files.result _ _
    (λ s taken clean. c.in-Ok.ensures.honest
    (earlier_clean (file_state c.in-Ok.conn) (file_state s.conn) taken.stop.clean clean))
    c.adopt_files.ensures.taken

pub returns-in-Ok-clause-fresh : goal.returns-in-Ok-clause-fresh
returns-in-Ok-clause-fresh g c =
    IfOk-weaker c.adopt_files.result _ _
    (λ s taken clean.
    let was =
    earlier_clean (file_state c.in-Ok.conn) (file_state s.conn) taken.stop.clean clean in
    let lacks = bare_lacks (file_state c.in-Ok.conn).now.schema (c.in-Ok.ensures.bare was) in
    taken.fresh clean (lacks journal_name) (lacks second_name)) c.adopt_files.ensures.taken
