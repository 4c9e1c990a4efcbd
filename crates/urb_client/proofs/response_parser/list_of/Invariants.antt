use Rattle.urb_client.proofs.Common.{entries_at, length, ◌-◌, ◌≡◌}
use Rattle.urb_client.proofs.EntryLoop.{with_front}
use Rattle.urb_client.proofs.response_parser.list_of.Given as goal

-- the entries so far, and those that are left
abbrev pub invariant-loop : goal.invariant-loop
invariant-loop g l = record {
  read : with_front l.entries.items (entries_at (l.count - l.counter) l.rest)
      ≡ entries_at l.count l.bytes;
  count : length l.entries.items ≡ l.counter;
}
