use Rattle.urb_window.proofs.Common.{entries_from, slice_get, ◌≡◌}
use Rattle.urb_window.proofs.RemainingEntries.{entries_at}
use Rattle.urb_window.proofs.rows.entry_of.Given as goal

-- the entry is among those of the remaining rows
abbrev pub invariant-loop-i : goal.invariant-loop-i
invariant-loop-i g l =
    slice_get (entries_at l.i l.rows) l.left ≡ slice_get (entries_from 1 l.rows) l.index
