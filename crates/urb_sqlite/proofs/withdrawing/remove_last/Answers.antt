use Rattle.urb_sqlite.proofs.Common.{inr, state, ◌+◌, ◌∙◌}
use Rattle.urb_sqlite.proofs.KeptRecords.{stops_now}
use Rattle.urb_sqlite.proofs.TakenRecords.{stops_at_delete, taken_out}
use Rattle.urb_sqlite.proofs.TransactionRecords.{left_still, left_undone}
use Rattle.urb_sqlite.proofs.withdrawing.remove_last.Goals as goal

pub returns-in-Ok-clause-ok : goal.returns-in-Ok-clause-ok
returns-in-Ok-clause-ok g c step =
    taken_out (state g.S.Store c.args.conn.now) (state g.S.Store c.delete_from-deleted.new.conn)
    c.args.first c.args.count step c.delete_from-deleted.ensures.survives.clean c.in-Ok.ensures.ok

pub returns-in-Ok-clause-stop : goal.returns-in-Ok-clause-stop
returns-in-Ok-clause-stop g c step honest clean =
    stops_at_delete (state g.S.Store c.args.conn.now)
    (state g.S.Store c.delete_from-deleted.new.conn) c.args.first c.args.count step
    (λ db. g.met.S.Store.settled c.args.conn.now.store db honest.is_open)
    c.schema-before.ensures.live c.delete_from-deleted.ensures.survives honest clean

pub returns-in-Err-clause-err : goal.returns-in-Err-clause-err
returns-in-Err-clause-err g c step =
    left_undone (state g.S.Store c.args.conn.now) (state g.S.Store c.delete_from-deleted.new.conn)
    (c.args.first + c.args.count) step c.delete_from-deleted.ensures.survives.clean
    c.in-Err.ensures.err

pub returns-in-Err-clause-stop : goal.returns-in-Err-clause-stop
returns-in-Err-clause-stop g c step honest clean =
    stops_at_delete (state g.S.Store c.args.conn.now)
    (state g.S.Store c.delete_from-deleted.new.conn) c.args.first c.args.count step
    (λ db. g.met.S.Store.settled c.args.conn.now.store db honest.is_open)
    c.schema-before.ensures.live c.delete_from-deleted.ensures.survives honest clean

pub returns-in-Ok-clause-rest : goal.returns-in-Ok-clause-rest
returns-in-Ok-clause-rest g c step =
    let new = state g.S.Store c.delete_from-deleted.new.conn in
    let taken =
    taken_out (state g.S.Store c.args.conn.now) new c.args.first c.args.count step
    c.delete_from-deleted.ensures.survives.clean c.in-Ok.ensures.ok in
    stops_now new c.args.first taken.kept
    (λ is_open db. g.met.S.Store.settled c.delete_from-deleted.new.conn.store db is_open)
    c.schema-after.ensures.live

pub returns-in-Err-clause-rest : goal.returns-in-Err-clause-rest
returns-in-Err-clause-rest g c step =
    let new = state g.S.Store c.delete_from-deleted.new.conn in
    let kept =
    left_undone (state g.S.Store c.args.conn.now) new (c.args.first + c.args.count) step
    c.delete_from-deleted.ensures.survives.clean c.in-Err.ensures.err in
    stops_now new (c.args.first + c.args.count) kept.kept
    (λ is_open db. g.met.S.Store.settled c.delete_from-deleted.new.conn.store db is_open)
    c.schema-after.ensures.live

-- a transaction is open: nothing is called
pub returns-then-is_inside-clause-err : goal.returns-then-is_inside-clause-err
returns-then-is_inside-clause-err g c step =
    left_still (state g.S.Store c.args.conn.now) (c.args.first + c.args.count) step

pub returns-then-is_inside-clause-stop : goal.returns-then-is_inside-clause-stop
returns-then-is_inside-clause-stop g c step honest clean kept gone whole size db left =
    let it =
    stops_now (state g.S.Store c.args.conn.now) (c.args.first + c.args.count) step
    (λ is_open db. g.met.S.Store.settled c.args.conn.now.store db is_open)
    c.schema-before.ensures.live honest db left in
    (it.0, it.1, it.2, inr (it.3 ∙ whole))

pub returns-then-is_inside-clause-rest : goal.returns-then-is_inside-clause-rest
returns-then-is_inside-clause-rest g c step =
    stops_now (state g.S.Store c.args.conn.now) (c.args.first + c.args.count) step
    (λ is_open db. g.met.S.Store.settled c.args.conn.now.store db is_open)
    c.schema-before.ensures.live
