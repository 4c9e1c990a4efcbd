use Rattle.std.proofs.Common.{take, vec_capacity, vec_len, ◌+◌, ◌-◌, ◌≡◌, ◌≤◌}
use Rattle.urb_show.specs.Lists.{list_at, lists_in}
use Rattle.urb_show.proofs.group_entries.entries_of.Given as goal

-- the entries so far, and room for the rest
abbrev pub invariant-loop-index : goal.invariant-loop-index
invariant-loop-index l = record {
  items : l.entries.items ≡ take l.index (list_at (lists_in l.group) (l.node - 1));
  room : vec_len l.entries + (l.count - l.index) ≤ vec_capacity l.entries;
}
