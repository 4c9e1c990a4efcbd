use Rattle.urb_sqlite.proofs.Common.{Err, HasCleanDisk, List, Ok, Row, Some, [], ap, arith}
use Rattle.urb_sqlite.proofs.Common.{length-append, option_copied, read_from, record_at, refl}
use Rattle.urb_sqlite.proofs.Common.{rules, select_of, state, sym, ◌∙◌, ◌∷◌, ◌≡◌}
use Rattle.sqlite.specs.State.{Shown}
use Rattle.urb_sqlite.specs.declared.rows.TableFault.TheVariants.{BadRow}
use Rattle.urb_sqlite.proofs.SpelledRows.{found_in}
use Rattle.urb_sqlite.proofs.TableReadings.{earlier, survives_both}
use Rattle.urb_sqlite.proofs.CursorReads.{meets_bad, on_err, reads_all, reads_none, reads_on}
use Rattle.urb_sqlite.proofs.CursorReads.{refused_left, refused_stops, start_stops}
use Rattle.urb_sqlite.proofs.rows.read_rows.Goals as goal

pub returns-in_err-rows-clause-left : goal.returns-in_err-rows-clause-left
returns-in_err-rows-clause-left g c clean =
    on_err _ c.from_residual.result
    (refused_left g.S.Store c.args.part c.select.result.now c.select.ensures c.args.conn.now
    c.query.follows.lender-at-none
    c.query.result c.in_err-rows.field-0.0 c.in_err-rows.was c.query.follows.holds-at-none clean)

pub returns-in_err-rows-clause-stop : goal.returns-in_err-rows-clause-stop
returns-in_err-rows-clause-stop g c =
    refused_stops g.S.Store c.args.part c.select.result.now c.select.ensures c.args.conn.now
    c.query.follows.lender-at-none
    c.query.result c.in_err-rows.field-0.0 c.in_err-rows.was c.query.follows.holds-at-none

pub rows-init : goal.rows-init
rows-init g c =
    let old = c.args.conn.now in
    let now = c.in_ok-rows.rows.conn.now in
    let sql = c.select.result.now in (
      refl,
      start_stops g.S.Store c.args.part sql c.select.ensures old now c.in_ok-rows.ensures.survives,
      rw c.new-records.ensures.items (omega arith),
      λ clean. rw c.new-records.ensures.items
          (reads_none g.S.Store c.args.part sql c.select.ensures old now c.args.limit c.args.first
          (c.in_ok-rows.ensures.begun clean)),
    )

pub returns-in_default-clause-records : goal.returns-in_default-clause-records
returns-in_default-clause-records g c clean =
    let old = state g.S.Store c.args.conn.now in
    let mid = c.rows.rows.conn.now in
    let now = c.advance.new.self.conn.now in
    let late : HasCleanDisk (state g.S.Store now) = search rules in
    let so_far =
    c.rows.invariant.3 (earlier (state g.S.Store mid)
    (state g.S.Store now) c.advance.ensures.survives late) in
    let on = c.in_ok-advance.ensures.ok late (select_of c.args.part) [] so_far.given so_far.has in
    let none = sym c.get.ensures ∙ ap option_copied c.in_default.is in
    let shown =
    reads_all g.S.Store c.args.part c.args.limit c.args.first old mid now c.rows.records.items
    so_far _ on none in
    let all : (rows : List Row) × Shown (select_of c.args.part) [] old (state g.S.Store now) rows
    × (read_from c.args.limit c.args.first rows ≡ Ok c.rows.records.items) =
    (so_far.given, shown, so_far.read) in
    search rules

pub returns-in-None-clause-bad : goal.returns-in-None-clause-bad
returns-in-None-clause-bad g c clean place is =
    let old = state g.S.Store c.args.conn.now in
    let mid = c.rows.rows.conn.now in
    let now = c.advance.new.self.conn.now in
    let late : HasCleanDisk (state g.S.Store now) = search rules in
    let so_far =
    c.rows.invariant.3 (earlier (state g.S.Store mid)
    (state g.S.Store now) c.advance.ensures.survives late) in
    let on = c.in_ok-advance.ensures.ok late (select_of c.args.part) [] so_far.given so_far.has in
    let some = sym c.get.ensures ∙ ap option_copied c.in-Some.is in
    let none = sym c.in_ok-record.ensures ∙ c.in-None.is in
    let met =
    meets_bad g.S.Store c.args.part c.args.limit c.args.first old mid now c.rows.records.items
    so_far _ on
    (c.in_ok-advance.ensures.same late)
    c.rows.place c.in-Some.row.now some c.rows.invariant.2 none in
    let same : c.rows.place ≡ place = let n : BadRow c.rows.place ≡ BadRow place = is in cc in
    (met.rows, met.begins, met.read ∙ ap Err same)

pub overflow_add-place : goal.overflow_add-place
overflow_add-place g c =
    let found : record_at c.args.limit c.rows.place c.in-Some.row.now ≡ Some c.in-Some-2.record =
    sym c.in_ok-record.ensures ∙ c.in-Some-2.is in
    omega (
      arith,
      (found_in c.args.limit c.rows.place c.in-Some.row.now c.in-Some-2.record
          found).low,
    )

pub rows-smaller : goal.rows-smaller
rows-smaller g c =
    let found : record_at c.args.limit c.rows.place c.in-Some.row.now ≡ Some c.in-Some-2.record =
    sym c.in_ok-record.ensures ∙ c.in-Some-2.is in
    omega (
      arith,
      (found_in c.args.limit c.rows.place c.in-Some.row.now c.in-Some-2.record
          found).low,
    )

pub rows-preserved : goal.rows-preserved
rows-preserved g c =
    let old = state g.S.Store c.args.conn.now in
    let mid = c.rows.rows.conn.now in
    let now = c.advance.new.self.conn.now in
    let r = c.in-Some-2.record in
    let some = sym c.get.ensures ∙ ap option_copied c.in-Some.is in
    let found = sym c.in_ok-record.ensures ∙ c.in-Some-2.is in (
      c.advance.ensures.same_reference ∙ c.rows.invariant.0,
      survives_both old (state g.S.Store mid)
          (state g.S.Store now) c.rows.invariant.1 c.advance.ensures.survives,
      rw c.in_ok-push-in-Some-2.ensures.items
          (omega (arith, c.rows.invariant.2, length-append c.rows.records.items (r ∷ []))),
      λ clean.
          let so_far =
          c.rows.invariant.3 (earlier (state g.S.Store mid)
          (state g.S.Store now) c.advance.ensures.survives clean) in
          let on =
          c.in_ok-advance.ensures.ok clean (select_of c.args.part) [] so_far.given so_far.has in
          rw c.in_ok-push-in-Some-2.ensures.items
          (reads_on g.S.Store c.args.part c.args.limit c.args.first old mid now c.rows.records.items
          so_far _ on
          (c.in_ok-advance.ensures.same clean)
          c.rows.place c.in-Some.row.now some c.rows.invariant.2 r found),
    )
