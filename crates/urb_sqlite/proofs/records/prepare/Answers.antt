use Rattle.urb_sqlite.proofs.Common.{AddsTable, Database, Executes, Ok, Part, [], create_of, false}
use Rattle.urb_sqlite.proofs.Common.{inl, inr, name_of, rules, state, subst, sym, ◌≡◌}
use Rattle.urb_sqlite.proofs.KeptRecords.{keeps_if_left, left_by_err}
use Rattle.urb_sqlite.proofs.StatementTexts.{Makes, create_parsed}
use Rattle.urb_sqlite.proofs.CreateStatement.{creates, creates_apart, creates_at_most}
use Rattle.urb_sqlite.proofs.CreateStatement.{creates_nothing}
use Rattle.urb_sqlite.proofs.records.prepare.Goals as goal

pub returns-in-Ok-clause-prepared : goal.returns-in-Ok-clause-prepared
returns-in-Ok-clause-prepared g c =
    let old = state g.S.Store c.args.conn.now in
    let new = state g.S.Store c.create.new.conn in
    let create = create_of c.args.part in
    let name = name_of c.args.part in
    let parsed = create_parsed c.args.part in
    let count = c.in-Ok.field-0 in
    let table = c.is_ready.ensures.table (search rules) in
    record {
      table = table;
      autocommit = c.is_ready.ensures.auto (search rules);
      settled = c.is_ready.ensures.settled (search rules);
      most = λ clean.
          elim (creates_at_most create name parsed old new count (c.in-Ok.ensures.runs clean)) [
            | inl same ↦ inl same
            | inr made ↦ inr made.0
          ];
      made = λ clean lacks.
          creates create name parsed old new count lacks table (c.in-Ok.ensures.runs clean);
      found = λ clean has.
          creates_nothing create name parsed old new count has (c.in-Ok.ensures.runs clean);
    }

pub returns-in-Ok-clause-kept : goal.returns-in-Ok-clause-kept
returns-in-Ok-clause-kept g c clean has =
    let old = state g.S.Store c.args.conn.now in
    let new = state g.S.Store c.create.new.conn in
    keeps_if_left old new (inl (creates_nothing (create_of c.args.part) (name_of c.args.part)
    (create_parsed c.args.part) old new c.in-Ok.field-0 has (c.in-Ok.ensures.runs clean)))

pub returns-in-Ok-clause-apart : goal.returns-in-Ok-clause-apart
returns-in-Ok-clause-apart g c clean first lacks =
    let old = state g.S.Store c.args.conn.now in
    let new = state g.S.Store c.create.new.conn in
    creates_apart old new c.in-Ok.field-0
    (subst (λ (p : Part). Makes (create_of p) (name_of p)) first (create_parsed c.args.part))
    lacks
    (subst (λ (p : Part). Executes (create_of p) [] old new (Ok c.in-Ok.field-0)) first
    (c.in-Ok.ensures.runs clean))

pub returns-in-Ok-2-clause-kept : goal.returns-in-Ok-2-clause-kept
returns-in-Ok-2-clause-kept g c clean has =
    let old = state g.S.Store c.args.conn.now in
    let new = state g.S.Store c.create.new.conn in
    keeps_if_left old new (inl (creates_nothing (create_of c.args.part) (name_of c.args.part)
    (create_parsed c.args.part) old new c.in-Ok-2.field-0 has (c.in-Ok-2.ensures.runs clean)))

pub returns-in-Ok-2-clause-err : goal.returns-in-Ok-2-clause-err
returns-in-Ok-2-clause-err g c clean =
    let old = state g.S.Store c.args.conn.now in
    let new = state g.S.Store c.create.new.conn in
    let auto : old.in_transaction ≡ false = search rules in
    elim (creates_at_most (create_of c.args.part) (name_of c.args.part)
    (create_parsed c.args.part) old new c.in-Ok-2.field-0 (c.in-Ok-2.ensures.runs clean)) [
      | inl same ↦ inl (keeps_if_left old new (inl same))
      | inr made ↦ inr (λ is_open. (
        made.0.was_open,
        subst (λ (d : Database). AddsTable old.now d (name_of c.args.part))
            (sym (made.1 auto)) made.0.adds,
      ))
    ]

pub returns-in-Err-clause-kept : goal.returns-in-Err-clause-kept
returns-in-Err-clause-kept g c clean has =
    let old = state g.S.Store c.args.conn.now in
    let new = state g.S.Store c.create.new.conn in
    keeps_if_left old new (left_by_err _ _ old new c.in-Err.error (c.in-Err.ensures.runs clean))

pub returns-in-Err-clause-err : goal.returns-in-Err-clause-err
returns-in-Err-clause-err g c clean =
    let old = state g.S.Store c.args.conn.now in
    let new = state g.S.Store c.create.new.conn in
    inl (keeps_if_left old new (left_by_err _ _ old new c.in-Err.error
    (c.in-Err.ensures.runs clean)))
