use Rattle.sqlite.specs.Held.{state}
use Rattle.urb_sqlite.proofs.KeptRecords.{stops_now}
use Rattle.urb_sqlite.proofs.journal.SqlStable.adopt.Goals as goal

pub returns-in-Ok-clause-rest : goal.returns-in-Ok-clause-rest
returns-in-Ok-clause-rest g c =
    stops_now (state g.S.Store c.take_over.new.conn) c.in-Ok.next c.in-Ok.ensures.kept
    (λ is_open db. g.met.S.Store.settled c.take_over.new.conn.store db is_open)
    c.in-Ok.ensures.live
