use Rattle.urb_window.proofs.Common.{entries_from, length, ◌*◌, ◌+◌, ◌^◌, ◌≡◌, ◌≤◌}
use Rattle.urb_window.proofs.RemainingEntries.{entries_at}
use Rattle.urb_window.proofs.rows.count_of.Given as goal

-- the values counted so far, and those of the remaining rows
abbrev pub invariant-loop-row : goal.invariant-loop-row
invariant-loop-row g l = record {
  all : l.count + length (entries_at l.row-index l.rows) ≡ length (entries_from 1 l.rows);
  few : l.count ≤ l.row-index * 2 ^ 33;
}
