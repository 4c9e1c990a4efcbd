use Rattle.urb_sqlite.proofs.Common.{Bool, Image, List, ap₂, cond, ℕ}
use Rattle.sqlite_disk.specs.Events.{Event, replay}
use Rattle.urb_sqlite.proofs.node_file.open_files_at.Goals as goal

abbrev image : List ℕ → List ℕ → Image
image log db = record { log = log; db = db }

abbrev seen : List ℕ → List ℕ → Bool → List Event → List ℕ
seen log db is_log history = (replay (cond is_log log db) history).seen

pub returns-in-Ok-clause-held : goal.returns-in-Ok-clause-held
returns-in-Ok-clause-held g c =
    let (log, db) = c.in-Ok.ensures.fresh in
    ap₂ image (ap₂ (seen g.S.Start.log g.S.Start.db) log.0 log.1)
    (ap₂ (seen g.S.Start.log g.S.Start.db) db.0 db.1)
