use Rattle.urb_window.proofs.Common.{slice_get, ◌≡◌, ◌≤◌}
use Rattle.urb_window.proofs.RemainingEntries.{entries_at}
use Rattle.urb_window.proofs.rows.first_from.Given as goal

-- the rows so far have no values
abbrev pub invariant-loop-i : goal.invariant-loop-i
invariant-loop-i g l = record {
  from : l.start ≤ l.i;
  first : slice_get (entries_at l.i l.rows) 0 ≡ slice_get (entries_at l.start l.rows) 0;
}
