use Rattle.urb_sqlite.proofs.Common.{HasCleanDisk, Survives, length, state, ◌+◌, ◌-◌, ◌≡◌}
use Rattle.urb_sqlite.proofs.CursorReads.{HasReadTo}
use Rattle.urb_sqlite.proofs.rows.read_rows.Given as goal

abbrev pub invariant-rows : goal.invariant-rows
invariant-rows g l =
    let old = state g.S.Store l.fn.conn in
    let now = state g.S.Store l.rows.conn.now in
    (l.rows.conn.ghost_name ≡ l.initial.rows.conn.ghost_name) × Survives old now (λ _. ⊥)
    × (l.place ≡ l.fn.first + length l.records.items)
    × (HasCleanDisk now → HasReadTo g.S.Store l.fn.part l.fn.limit l.fn.first old l.rows.conn.now
    l.records.items)

abbrev pub decreases-rows : goal.decreases-rows
decreases-rows g l = 4294967295 - l.place
