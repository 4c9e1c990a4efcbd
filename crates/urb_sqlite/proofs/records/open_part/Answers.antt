use Rattle.urb_sqlite.proofs.Common.{HasCleanDisk, err_from_is_err_and, state}
use Rattle.urb_sqlite.proofs.TableReadings.{earlier}
use Rattle.urb_sqlite.proofs.TableOpenings.{opened, unprepared, unread}
use Rattle.urb_sqlite.proofs.records.open_part.Goals as goal

pub returns-in_err-prepare-clause-refused : goal.returns-in_err-prepare-clause-refused
returns-in_err-prepare-clause-refused g c =
    let old = state g.S.Store c.args.conn.now in
    let new = state g.S.Store c.prepare.new.conn in
    let p = err_from_is_err_and c.from_residual.result c.from_residual.ensures.1 in
    rw (p.1, p.2) (λ (clean : HasCleanDisk new).
    unprepared c.args.part old new c.args.first _ c.in_err-prepare.ensures.known
    (c.in_err-prepare.ensures.err clean) (c.in_err-prepare.ensures.kept clean))

pub returns-in_err-next-clause-refused : goal.returns-in_err-next-clause-refused
returns-in_err-next-clause-refused g c =
    let old = state g.S.Store c.args.conn.now in
    let mid = state g.S.Store c.prepare.new.conn in
    let new = state g.S.Store c.count_part.new.conn in
    let p =
    err_from_is_err_and c.from_residual-in_err-next.result
    c.from_residual-in_err-next.ensures.1 in
    let reads = c.in_err-next.ensures.reads in
    rw (p.1, p.2) (λ (clean : HasCleanDisk new).
    unread c.args.part old mid new c.args.first c.in_ok-prepare.ensures.prepared
    (earlier mid new reads.stop clean) _ (reads.left clean)
    (λ has. reads.bad clean has) (λ has. reads.sound clean has))

pub returns-clause-opened : goal.returns-clause-opened
returns-clause-opened g c clean =
    let old = state g.S.Store c.args.conn.now in
    let mid = state g.S.Store c.prepare.new.conn in
    let new = state g.S.Store c.count_part.new.conn in
    let reads = c.in_ok-next.ensures.reads in
    opened c.args.part old mid new c.args.first c.in_ok-prepare.ensures.prepared
    (earlier mid new reads.stop clean) _ (reads.same clean)
    (λ has. c.in_ok-next.ensures.found clean has)
