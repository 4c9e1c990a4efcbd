use Rattle.urb_sqlite.proofs.Common.{IfOk-weaker, file_state}
use Rattle.sqlite_wal.specs.Files.{image_at}
use Rattle.urb_sqlite.proofs.NodeJournals.{found_there}
use Rattle.urb_sqlite.proofs.journal_open.SqlStable+FileStore+FileFrom+S.open_from.Goals as goal

pub returns-in-Ok-clause-found : goal.returns-in-Ok-clause-found
returns-in-Ok-clause-found g c =
    IfOk-weaker c.adopt_files.result _ _
    (λ s taken. found_there (file_state c.in-Ok.conn) (file_state s.conn) (image_at g.S.Start)
    c.in-Ok.ensures.opened c.in-Ok.ensures.found taken) c.adopt_files.ensures.taken
