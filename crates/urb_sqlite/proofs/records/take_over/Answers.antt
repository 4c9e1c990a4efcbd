use Rattle.urb_sqlite.proofs.Common.{IfOk-weaker, IsTakenOver, err_from_is_err_and, refl, state}
use Rattle.urb_sqlite.proofs.AcceptedOpenings.{kept_over, taken_over, when_ok}
use Rattle.urb_sqlite.proofs.RefusedOpenings.{first_given_back, second_given_back, when_both_err}
use Rattle.urb_sqlite.proofs.records.take_over.Goals as goal

pub returns-clause-taken : goal.returns-clause-taken
returns-clause-taken g c =
    let old = state g.S.Store c.args.conn.now in
    let mid = state g.S.Store c.open_part.new.conn in
    let new = state g.S.Store c.open_part-2.new.conn in
    when_ok c.open_part-2.result _ (IsTakenOver old new)
    (λ next two. taken_over old mid new c.in_ok-place.place next c.in_ok-place.ensures.opened two
    c.open_part.ensures.stop c.open_part-2.ensures.stop
    (λ clean. c.in_ok-place.ensures.apart clean refl)) c.open_part-2.ensures.opened

pub returns-clause-kept : goal.returns-clause-kept
returns-clause-kept g c =
    let old = state g.S.Store c.args.conn.now in
    let mid = state g.S.Store c.open_part.new.conn in
    let new = state g.S.Store c.open_part-2.new.conn in
    IfOk-weaker c.open_part-2.result _ _
    (λ next two. kept_over old mid new c.in_ok-place.place next c.in_ok-place.ensures.opened two
    c.open_part.ensures.stop c.open_part-2.ensures.stop) c.open_part-2.ensures.opened

pub returns-clause-refused : goal.returns-clause-refused
returns-clause-refused g c =
    let old = state g.S.Store c.args.conn.now in
    let mid = state g.S.Store c.open_part.new.conn in
    let new = state g.S.Store c.open_part-2.new.conn in
    when_both_err c.open_part-2.result _ _ _
    (λ e two. second_given_back old mid new c.in_ok-place.place e c.in_ok-place.ensures.opened two
    c.open_part.ensures.stop c.open_part-2.ensures.stop
    (λ clean. c.in_ok-place.ensures.apart clean refl))
    c.open_part-2.ensures.refused c.open_part-2.ensures.placed

pub returns-in_err-place-clause-refused : goal.returns-in_err-place-clause-refused
returns-in_err-place-clause-refused g c =
    let old = state g.S.Store c.args.conn.now in
    let new = state g.S.Store c.open_part.new.conn in
    let p = err_from_is_err_and c.from_residual.result c.from_residual.ensures.1 in
    rw (p.1, p.2) (first_given_back old new _ c.in_err-place.ensures.refused
    c.in_err-place.ensures.placed c.open_part.ensures.stop)
