use Rattle.urb_sqlite.proofs.journal_open.SqlStable+FileStore+D.adopt_files.Goals as goal

pub returns-in-Ok-clause-taken : goal.returns-in-Ok-clause-taken
returns-in-Ok-clause-taken g c = c.in-Ok.ensures.taken
