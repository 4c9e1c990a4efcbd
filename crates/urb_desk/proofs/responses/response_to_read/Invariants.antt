use Rattle.std.proofs.Common.{◌≡◌, length, map, vec_len}
use Rattle.urb_desk.specs.Desks.{pair_of}
use Rattle.urb_desk.proofs.responses.response_to_read.Given as goal

abbrev pub invariant-loop-entry : goal.invariant-loop-entry
invariant-loop-entry l = record {
  pairs : l.pairs.items ≡ map pair_of l.yielded;
  count : vec_len l.pairs ≡ length l.yielded;
}
