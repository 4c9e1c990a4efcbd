use Rattle.urb_client.proofs.Common.{Consumes, length, take, ◌-◌, ◌≤◌}
use Rattle.urb_client.proofs.full_read.read_full.Given as goal

-- what is filled so far is what the reader lost
abbrev pub invariant-loop-filled : goal.invariant-loop-filled
invariant-loop-filled g l = record {
  within : l.filled ≤ length l.buffer;
  bytes : Consumes (g.R.Read.remaining l.fn.reader) (g.R.Read.remaining l.reader)
      (take l.filled l.buffer);
}

-- what is still to be filled
abbrev pub decreases-loop-filled : goal.decreases-loop-filled
decreases-loop-filled g l = length l.buffer - l.filled
