use Rattle.std.proofs.Common.{vec_capacity, vec_len, ◌≡◌, ◌≤◌}
use Rattle.urb_group.proofs.moves.NewPlaces.{first_places}
use Rattle.urb_group.proofs.group.Group.new.Given as goal

-- the nodes so far, and room for all
abbrev pub invariant-loop-at : goal.invariant-loop-at
invariant-loop-at g l = record {
  nodes : l.nodes.items ≡ first_places l.config l.at;
  count : vec_len l.nodes ≡ l.at;
  room : l.n ≤ vec_capacity l.nodes;
}
