use Rattle.urb_turn.proofs.Common.{AllBegin, IfSome, events_in, vec_capacity, vec_len, ◌+◌, ◌≡◌}
use Rattle.urb_turn.proofs.Common.{◌≤◌}
use Rattle.urb_turn.proofs.hub.Hub.new.Given as goal

abbrev pub invariant-loop-i : goal.invariant-loop-i
invariant-loop-i g l = record {
  parts : l.rest.parts + l._i ≡ l.nodes;
  amount : l.rest.amount ≡ 0;
  made : vec_len l.tallies ≡ l._i;
  zero : events_in l.tallies.items ≡ 0;
  begin : AllBegin l.tallies.items l.house.past;
  ended : IfSome l.end (λ e. e ≡ l.house.past);
  room : l.nodes ≤ vec_capacity l.tallies;
}
