use Rattle.urb_sqlite.proofs.Common.{HasCleanDisk, IsFilling, Survives, state, take, ◌+◌, ◌≡◌}
use Rattle.urb_sqlite.proofs.sql.insert_all.Given as goal

-- the rows so far were added, and nothing was committed
abbrev pub invariant-loop-entry : goal.invariant-loop-entry
invariant-loop-entry g l =
    let old = state g.S.Store l.fn.conn in
    let now = state g.S.Store l.tx.conn.now in
    (l.tx.conn.ghost_name ≡ l.initial.tx.conn.ghost_name) × Survives old now (λ _. ⊥)
    × (l.at ≡ l.fn.place + l.entry-index)
    × (HasCleanDisk now → IsFilling old now l.fn.place (take l.entry-index l.fn.entries))
