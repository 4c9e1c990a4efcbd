use Rattle.urb_window.proofs.Common.{AllByRecursion, IsRow, MAX_SENDERS, entries_from, length, ◌-◌}
use Rattle.urb_window.proofs.Common.{◌≡◌, ◌≤◌}
use Rattle.urb_window.proofs.rows.fill.Given as goal

-- the same entries, in rows that are unchanged if there was one for each sender
abbrev pub invariant-loop-alloc : goal.invariant-loop-alloc
invariant-loop-alloc g l = record {
  entries : entries_from 1 l.rows.items ≡ entries_from 1 l.initial.rows.items;
  all : AllByRecursion IsRow l.initial.rows.items → AllByRecursion IsRow l.rows.items;
  most : length l.rows.items ≤ MAX_SENDERS;
  full : length l.initial.rows.items ≡ MAX_SENDERS → l.rows.items ≡ l.initial.rows.items;
}

abbrev pub decreases-loop-alloc : goal.decreases-loop-alloc
decreases-loop-alloc g l = MAX_SENDERS - length l.rows.items
