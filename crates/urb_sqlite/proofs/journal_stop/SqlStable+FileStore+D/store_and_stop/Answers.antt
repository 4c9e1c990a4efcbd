use Rattle.urb_sqlite.proofs.Common.{IfOk-weaker, file_state}
use Rattle.urb_sqlite.proofs.JournalStops.{found_after}
use Rattle.urb_sqlite.proofs.journal_stop.SqlStable+FileStore+D.store_and_stop.Goals as goal

pub returns : goal.returns
returns g c =
    let stored = c.store-stored.ensures in
    IfOk-weaker c.stop_and_open.result _ _ (λ again reopened clean honest.
    found_after c.store-stored.result (file_state c.args.self.conn)
    (file_state c.store-stored.new.self.conn)
    (file_state again.conn) c.args.entry.now stored.trust.alive
    (λ honest. (stored.appended honest).stored) stored.rest stored.stop
    (reopened.kept clean) (reopened.found clean) (reopened.clean clean) honest)
    c.stop_and_open.ensures
