use Rattle.urb_sqlite.proofs.Common.{IfOk-weaker, file_state, image_of}
use Rattle.urb_sqlite.proofs.KeptRecords.{earlier_clean}
use Rattle.urb_sqlite.proofs.NodeJournals.{found_there}
use Rattle.urb_sqlite.proofs.journal_open.SqlStable+FileStore+D.open_there.Goals as goal

pub returns-in-Ok-clause-clean : goal.returns-in-Ok-clause-clean
returns-in-Ok-clause-clean g c =
    IfOk-weaker c.adopt_files.result _ _
    (λ s taken clean. (c.in-Ok.ensures.found
    (earlier_clean (file_state c.in-Ok.conn) (file_state s.conn) taken.stop.clean clean)).honest)
    c.adopt_files.ensures.taken

pub returns-in-Ok-clause-found : goal.returns-in-Ok-clause-found
returns-in-Ok-clause-found g c =
    IfOk-weaker c.adopt_files.result _ _
    (λ s taken. found_there (file_state c.in-Ok.conn) (file_state s.conn)
    (image_of g.D.Disk c.args.files) c.in-Ok.ensures.opened
    (λ clean. (let it = c.in-Ok.ensures.found clean in
    record { holds = it.holds; reads = it.reads })) taken) c.adopt_files.ensures.taken
