use Rattle.urb_sqlite.proofs.Common.{IfOk-weaker, arith, err_from_is_err_and, length, state, ◌+◌}
use Rattle.urb_sqlite.proofs.Common.{◌≡◌}
use Rattle.urb_sqlite.proofs.KeptRecords.{shut_before}
use Rattle.urb_sqlite.proofs.StoredRows.{first_read}
use Rattle.urb_sqlite.proofs.TableReadings.{earlier, left_then, safe_after, second_is_read}
use Rattle.urb_sqlite.proofs.TableReadings.{stands_when_read, still_there, survives_both}
use Rattle.urb_sqlite.proofs.records.read.Goals as goal

pub returns-in_err-records-clause-sound : goal.returns-in_err-records-clause-sound
returns-in_err-records-clause-sound g c clean has next counted =
    let p = err_from_is_err_and c.from_residual.result c.from_residual.ensures.1 in
    rw (p.1, p.2) (c.in_err-records.ensures.reads.sound clean has.first counted.stands.first
    (first_read (state g.S.Store c.args.conn.now).now _ counted.stands))

pub returns-in_err-records-clause-rest : goal.returns-in_err-records-clause-rest
returns-in_err-records-clause-rest g c next step =
    let new = state g.S.Store c.read_part.new.conn in
    safe_after (state g.S.Store c.args.conn.now)
    new next c.read_part.ensures.reads.stop c.read_part.ensures.reads.left
    (λ is_open db. g.met.S.Store.settled c.read_part.new.conn.store db is_open)
    c.read_part.ensures.reads.live step

pub returns-in_err-records-clause-shut : goal.returns-in_err-records-clause-shut
returns-in_err-records-clause-shut g c clean shut =
    let p = err_from_is_err_and c.from_residual.result c.from_residual.ensures.1 in
    rw (p.1, p.2) (shut_before (state g.S.Store c.args.conn.now)
    (state g.S.Store c.read_part.new.conn) c.in_err-records.field-0.0 shut
    (c.in_err-records.ensures.unchanged clean))

pub returns-in_err-more-clause-shut : goal.returns-in_err-more-clause-shut
returns-in_err-more-clause-shut g c clean shut =
    let mid = state g.S.Store c.read_part.new.conn in
    let new = state g.S.Store c.read_part-2.new.conn in
    let before = earlier mid new c.read_part-2.ensures.reads.stop clean in
    let same = c.in_ok-records.ensures.reads.same before in
    absurd (shut same.0.was_open)

pub returns-in_err-more-clause-sound : goal.returns-in_err-more-clause-sound
returns-in_err-more-clause-sound g c clean has next counted =
    let old = state g.S.Store c.args.conn.now in
    let mid = state g.S.Store c.read_part.new.conn in
    let new = state g.S.Store c.read_part-2.new.conn in
    let before = earlier mid new c.read_part-2.ensures.reads.stop clean in
    let same = c.in_ok-records.ensures.reads.same before in
    let read = c.in_ok-records.ensures.found before has.first in
    let at : c.len.result + 1 ≡ 1 + length c.in_ok-records.records.items =
    omega (arith, c.len.ensures) in
    let p =
    err_from_is_err_and c.from_residual-in_err-more.result
    c.from_residual-in_err-more.ensures.1 in
    rw (p.1, p.2) (c.in_err-more.ensures.reads.sound clean
    (still_there old mid _ same has.second) counted.stands.second
    (second_is_read old mid _ c.in_ok-records.records.items _ same at read counted.stands))

pub returns-in_err-more-clause-rest : goal.returns-in_err-more-clause-rest
returns-in_err-more-clause-rest g c next step =
    let old = state g.S.Store c.args.conn.now in
    let mid = state g.S.Store c.read_part.new.conn in
    let new = state g.S.Store c.read_part-2.new.conn in
    safe_after old new next (survives_both old mid new c.read_part.ensures.reads.stop
    c.read_part-2.ensures.reads.stop)
    (λ clean. left_then old mid new
    (c.in_ok-records.ensures.reads.same (earlier mid new c.read_part-2.ensures.reads.stop clean))
    (c.read_part-2.ensures.reads.left clean))
    (λ is_open db. g.met.S.Store.settled c.read_part-2.new.conn.store db is_open)
    c.read_part-2.ensures.reads.live step

pub returns-clause-found : goal.returns-clause-found
returns-clause-found g c clean has =
    let old = state g.S.Store c.args.conn.now in
    let mid = state g.S.Store c.read_part.new.conn in
    let new = state g.S.Store c.read_part-2.new.conn in
    let before = earlier mid new c.read_part-2.ensures.reads.stop clean in
    let same = c.in_ok-records.ensures.reads.same before in
    let read = c.in_ok-records.ensures.found before has.first in
    let at : c.len.result + 1 ≡ 1 + length c.in_ok-records.records.items =
    omega (arith, c.len.ensures) in
    let more = c.in_ok-more.ensures.found clean (still_there old mid _ same has.second) in
    IfOk-weaker c.append_all.result _ _
    (λ all whole. stands_when_read old mid _ c.in_ok-records.records.items
    c.in_ok-more.more.items all.items same at read more whole) c.append_all.ensures.all

pub returns-clause-rest : goal.returns-clause-rest
returns-clause-rest g c next step =
    let old = state g.S.Store c.args.conn.now in
    let mid = state g.S.Store c.read_part.new.conn in
    let new = state g.S.Store c.read_part-2.new.conn in
    safe_after old new next (survives_both old mid new c.read_part.ensures.reads.stop
    c.read_part-2.ensures.reads.stop)
    (λ clean. left_then old mid new
    (c.in_ok-records.ensures.reads.same (earlier mid new c.read_part-2.ensures.reads.stop clean))
    (c.read_part-2.ensures.reads.left clean))
    (λ is_open db. g.met.S.Store.settled c.read_part-2.new.conn.store db is_open)
    c.read_part-2.ensures.reads.live step
