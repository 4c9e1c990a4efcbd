use Rattle.urb_sqlite.proofs.Common.{state, ◌+◌}
use Rattle.urb_sqlite.proofs.KeptRecords.{appended, left, left_by_err, stops_at_insert, stops_now}
use Rattle.urb_sqlite.proofs.records.append.Goals as goal

pub returns-in-Ok-clause-ok : goal.returns-in-Ok-clause-ok
returns-in-Ok-clause-ok g c step =
    appended (state g.S.Store c.args.conn.now)
    (state g.S.Store c.insert-inserted.new.conn)
    c.args.place c.args.entry.now c.in-Ok.field-0 step c.requires.low
    c.recall.ensures c.insert-inserted.ensures.survives.clean c.in-Ok.ensures.runs

pub returns-in-Ok-clause-stop : goal.returns-in-Ok-clause-stop
returns-in-Ok-clause-stop g c step honest clean =
    let old = state g.S.Store c.args.conn.now in
    let new = state g.S.Store c.insert-inserted.new.conn in
    stops_at_insert old new c.args.place c.args.entry.now step c.requires.low c.recall.ensures
    (λ db. g.met.S.Store.settled c.args.conn.now.store db honest.is_open)
    c.schema-before.ensures.live c.insert-inserted.ensures.survives honest clean

pub returns-in-Err-clause-err : goal.returns-in-Err-clause-err
returns-in-Err-clause-err g c step =
    left (state g.S.Store c.args.conn.now)
    (state g.S.Store c.insert-inserted.new.conn)
    c.args.place step c.insert-inserted.ensures.survives.clean
    (λ clean. left_by_err _ _ _ _ c.in-Err.error (c.in-Err.ensures.runs clean))

pub returns-in-Err-clause-stop : goal.returns-in-Err-clause-stop
returns-in-Err-clause-stop g c step honest clean =
    let old = state g.S.Store c.args.conn.now in
    let new = state g.S.Store c.insert-inserted.new.conn in
    stops_at_insert old new c.args.place c.args.entry.now step c.requires.low c.recall.ensures
    (λ db. g.met.S.Store.settled c.args.conn.now.store db honest.is_open)
    c.schema-before.ensures.live c.insert-inserted.ensures.survives honest clean

pub returns-in-Ok-clause-rest : goal.returns-in-Ok-clause-rest
returns-in-Ok-clause-rest g c step =
    let new = state g.S.Store c.insert-inserted.new.conn in
    let added =
    appended (state g.S.Store c.args.conn.now)
    new c.args.place c.args.entry.now c.in-Ok.field-0 step c.requires.low c.recall.ensures
    c.insert-inserted.ensures.survives.clean c.in-Ok.ensures.runs in
    stops_now new (c.args.place + 1) added.kept
    (λ is_open db. g.met.S.Store.settled c.insert-inserted.new.conn.store db is_open)
    c.schema-after.ensures.live

pub returns-in-Err-clause-rest : goal.returns-in-Err-clause-rest
returns-in-Err-clause-rest g c step =
    let new = state g.S.Store c.insert-inserted.new.conn in
    let kept =
    left (state g.S.Store c.args.conn.now)
    new c.args.place step c.insert-inserted.ensures.survives.clean
    (λ clean. left_by_err _ _ _ _ c.in-Err.error (c.in-Err.ensures.runs clean)) in
    stops_now new c.args.place kept.kept
    (λ is_open db. g.met.S.Store.settled c.insert-inserted.new.conn.store db is_open)
    c.schema-after.ensures.live
