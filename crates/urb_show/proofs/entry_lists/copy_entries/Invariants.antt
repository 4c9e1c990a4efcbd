use Rattle.std.proofs.Common.{length, take, vec_capacity, vec_len, ◌+◌, ◌-◌, ◌≡◌, ◌≤◌}
use Rattle.urb_show.proofs.entry_lists.copy_entries.Given as goal

-- the copies so far, and room for the rest
abbrev pub invariant-loop-entry : goal.invariant-loop-entry
invariant-loop-entry g l = record {
  items : l.copies.items ≡ take l.entry-index l.entries;
  room : vec_len l.copies + (length l.entries - l.entry-index) ≤ vec_capacity l.copies;
}
