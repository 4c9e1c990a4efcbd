use Rattle.urb_sqlite.proofs.Common.{First, HasCleanDisk, IsUnchanged, MAX_PAYLOAD, Part, Second}
use Rattle.urb_sqlite.proofs.Common.{arith, inl, limit_of, rules, state, ◌≤◌}
use Rattle.urb_sqlite.proofs.KeptRecords.{reads_if_shown, unchanged_by_select}
use Rattle.urb_sqlite.proofs.CursorReads.{bad_in_table, no_bad_row, no_records}
use Rattle.urb_sqlite.proofs.counting.count_part.Goals as goal

low : (part : Part) → limit_of part ≤ MAX_PAYLOAD
low First = omega arith
low Second = omega arith

pub returns-in-Ok-clause-reads : goal.returns-in-Ok-clause-reads
returns-in-Ok-clause-reads g c =
    let old = state g.S.Store c.args.conn.now in
    let new = state g.S.Store c.count_rows-counted.new.conn in
    let same : HasCleanDisk new → IsUnchanged old new =
    λ clean. (let it = c.in-Ok.ensures.counted clean in
    unchanged_by_select c.args.part old new it.0 it.1) in
    record {
      same = same;
      left = λ clean. inl (same clean);
      sound = λ clean has records all. tt;
      bad = λ clean has. tt;
      placed = tt;
      stop = c.count_rows-counted.ensures.stop;
      live = search rules;
    }

pub returns-in-Ok-clause-found : goal.returns-in-Ok-clause-found
returns-in-Ok-clause-found g c clean has =
    let it = c.in-Ok.ensures.counted clean in record {
      records = it.2;
      read =
          reads_if_shown c.args.part (state g.S.Store c.args.conn.now)
          (state g.S.Store c.count_rows-counted.new.conn) it.0 has it.1
          c.args.first it.2 (rw c.limit_of.ensures.is at it.3);
      place = it.4;
    }

pub returns-in-Err-clause-reads : goal.returns-in-Err-clause-reads
returns-in-Err-clause-reads g c =
    let old = state g.S.Store c.args.conn.now in
    let new = state g.S.Store c.count_rows-counted.new.conn in
    record {
      same = λ clean. tt;
      left = c.in-Err.ensures.left;
      sound = λ clean has records all.
          no_bad_row c.fault_of.result (λ place is.
          let it = c.in-Err.ensures.bad clean place (c.fault_of.ensures.row place is) in
          no_records c.args.part old new has c.args.first it.0 place it.1 it.3
          (rw c.limit_of.ensures.is at it.2) records all);
      bad = λ clean has place is.
          let it = c.in-Err.ensures.bad clean place (c.fault_of.ensures.row place is) in
          bad_in_table c.args.part old new has c.args.first it.0 place it.1 it.3
          (rw c.limit_of.ensures.is at it.2) (low c.args.part) c.requires;
      placed = c.fault_of.ensures.placed;
      stop = c.count_rows-counted.ensures.stop;
      live = search rules;
    }
