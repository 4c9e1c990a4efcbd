use Rattle.std.proofs.Common.{All, [], length, vec_capacity, vec_len, ◌+◌, ◌-◌, ◌≡◌, ◌≤◌}
use Rattle.urb_show.proofs.opened_group.make_readers.Given as goal

-- the readers so far, and room for the rest
abbrev pub invariant-loop : goal.invariant-loop
invariant-loop g l = record {
  count : length l.readers.items ≡ l.counter;
  known : All (λ r. r ≡ record
      { seen = g.K.HouseName.base; told = g.K.HouseName.base; past = [] }) l.readers.items;
  room : vec_len l.readers + (l.count - l.counter) ≤ vec_capacity l.readers;
}
