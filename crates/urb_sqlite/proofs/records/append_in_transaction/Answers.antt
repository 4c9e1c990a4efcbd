use Rattle.urb_sqlite.proofs.Common.{inl, length, state, ◌+◌}
use Rattle.urb_sqlite.proofs.KeptRecords.{stops_now}
use Rattle.urb_sqlite.proofs.TransactionRecords.{added_all, left_still, left_undone}
use Rattle.urb_sqlite.proofs.TransactionRecords.{stops_at_inserts}
use Rattle.urb_sqlite.proofs.records.append_in_transaction.Goals as goal

pub returns-in-Ok-clause-ok : goal.returns-in-Ok-clause-ok
returns-in-Ok-clause-ok g c step =
    added_all (state g.S.Store c.args.conn.now)
    (state g.S.Store c.insert_all-inserted.new.conn)
    c.args.place c.args.entries.now step c.insert_all-inserted.ensures.survives.clean
    c.in-Ok.ensures.ok

pub returns-in-Ok-clause-stop : goal.returns-in-Ok-clause-stop
returns-in-Ok-clause-stop g c step honest clean =
    stops_at_inserts (state g.S.Store c.args.conn.now)
    (state g.S.Store c.insert_all-inserted.new.conn)
    c.args.place c.args.entries.now step
    (λ db. g.met.S.Store.settled c.args.conn.now.store db honest.is_open)
    c.schema-before.ensures.live c.insert_all-inserted.ensures.survives honest clean

pub returns-in-Err-clause-err : goal.returns-in-Err-clause-err
returns-in-Err-clause-err g c step =
    left_undone (state g.S.Store c.args.conn.now)
    (state g.S.Store c.insert_all-inserted.new.conn)
    c.args.place step c.insert_all-inserted.ensures.survives.clean c.in-Err.ensures.err

pub returns-in-Err-clause-stop : goal.returns-in-Err-clause-stop
returns-in-Err-clause-stop g c step honest clean =
    stops_at_inserts (state g.S.Store c.args.conn.now)
    (state g.S.Store c.insert_all-inserted.new.conn)
    c.args.place c.args.entries.now step
    (λ db. g.met.S.Store.settled c.args.conn.now.store db honest.is_open)
    c.schema-before.ensures.live c.insert_all-inserted.ensures.survives honest clean

pub returns-in-Ok-clause-rest : goal.returns-in-Ok-clause-rest
returns-in-Ok-clause-rest g c step =
    let new = state g.S.Store c.insert_all-inserted.new.conn in
    let added =
    added_all (state g.S.Store c.args.conn.now) new c.args.place c.args.entries.now step
    c.insert_all-inserted.ensures.survives.clean c.in-Ok.ensures.ok in
    stops_now new (c.args.place + length c.args.entries.now) added.kept
    (λ is_open db. g.met.S.Store.settled c.insert_all-inserted.new.conn.store db is_open)
    c.schema-after.ensures.live

pub returns-in-Err-clause-rest : goal.returns-in-Err-clause-rest
returns-in-Err-clause-rest g c step =
    let new = state g.S.Store c.insert_all-inserted.new.conn in
    let kept =
    left_undone (state g.S.Store c.args.conn.now) new c.args.place step
    c.insert_all-inserted.ensures.survives.clean c.in-Err.ensures.err in
    stops_now new c.args.place kept.kept
    (λ is_open db. g.met.S.Store.settled c.insert_all-inserted.new.conn.store db is_open)
    c.schema-after.ensures.live

-- a transaction is open: nothing is called
pub returns-then-is_inside-clause-err : goal.returns-then-is_inside-clause-err
returns-then-is_inside-clause-err g c step =
    left_still (state g.S.Store c.args.conn.now) c.args.place step

pub returns-then-is_inside-clause-stop : goal.returns-then-is_inside-clause-stop
returns-then-is_inside-clause-stop g c step honest clean db left =
    let it =
    stops_now (state g.S.Store c.args.conn.now) c.args.place step
    (λ is_open db. g.met.S.Store.settled c.args.conn.now.store db is_open)
    c.schema-before.ensures.live honest db left in
    (it.0, it.1, it.2, inl it.3)

pub returns-then-is_inside-clause-rest : goal.returns-then-is_inside-clause-rest
returns-then-is_inside-clause-rest g c step =
    stops_now (state g.S.Store c.args.conn.now) c.args.place step
    (λ is_open db. g.met.S.Store.settled c.args.conn.now.store db is_open)
    c.schema-before.ensures.live
