use Rattle.urb_sqlite.proofs.Common.{Entry, HasCleanDisk, List, Survives, length, state, ◌+◌, ◌-◌}
use Rattle.urb_sqlite.proofs.Common.{◌≡◌}
use Rattle.urb_sqlite.proofs.CursorReads.{HasReadTo}
use Rattle.urb_sqlite.proofs.counting.count_rows.Given as goal

abbrev pub invariant-rows : goal.invariant-rows
invariant-rows g l =
    let old = state g.S.Store l.fn.conn in
    let now = state g.S.Store l.rows.conn.now in
    (l.rows.conn.ghost_name ≡ l.initial.rows.conn.ghost_name) × Survives old now (λ _. ⊥)
    × (HasCleanDisk now → (records : List Entry) × (l.place ≡ l.fn.first + length records)
    × HasReadTo g.S.Store l.fn.part l.fn.limit l.fn.first old l.rows.conn.now records)

abbrev pub decreases-rows : goal.decreases-rows
decreases-rows g l = 4294967295 - l.place
