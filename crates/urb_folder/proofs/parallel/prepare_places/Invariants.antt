use Rattle.urb_folder.proofs.Common.{AreFound, IsGiven, OpensIn, vec_capacity, vec_len, ◌≡◌, ◌≤◌}
use Rattle.urb_folder.proofs.parallel.prepare_places.Given as goal

-- the list has the claim of its node at each place so far, and room for all `count` places
abbrev pub invariant-loop : goal.invariant-loop
invariant-loop g l = record {
  count : vec_len l.found ≡ l.counter;
  room : l.fn.count ≤ vec_capacity l.found;
  each : AreFound (OpensIn g.D.Disk g.D.NodeDisk.held) l.found.items;
  given : IsGiven l.counter l.claims;
}
