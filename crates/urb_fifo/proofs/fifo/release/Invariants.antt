use Rattle.urb_fifo.proofs.Common.{map, name, numbers_from, suc, vec_capacity, vec_len, ◌++◌, ◌+◌}
use Rattle.urb_fifo.proofs.Common.{◌-◌, ◌≡◌, ◌≤◌}
use Rattle.urb_fifo.proofs.fifo.release.Given as goal

-- the names released so far, and those still to release
abbrev pub invariant-loop-seq : goal.invariant-loop-seq
invariant-loop-seq g l = record {
  log : l.log.items ++ map (name l.sender) (numbers_from (suc l.seq) (l.end - l.seq))
      ≡ l.fn.log.items ++ map (name l.sender) (numbers_from (suc l.from) (l.end - l.from));
  len : vec_len l.log + (l.end - l.seq) ≡ vec_len l.fn.log + (l.end - l.from);
  room : vec_len l.log + (l.end - l.seq) ≤ vec_capacity l.log;
}
