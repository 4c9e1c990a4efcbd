use Rattle.urb_window.proofs.Common.{count_by, has_bit, nodes, numbers_from, suc, ◌+◌, ◌-◌, ◌<◌}
use Rattle.urb_window.proofs.Common.{◌≡◌, ◌≤◌}
use Rattle.urb_window.proofs.mask.bits_up_to.Given as goal

-- the nodes counted so far, and those still to count
abbrev pub invariant-loop-number : goal.invariant-loop-number
invariant-loop-number l = record {
  first : 1 ≤ l.number;
  last : l.number ≤ suc l.n;
  few : l.count < l.number;
  all : l.count + count_by (has_bit l.mask) (numbers_from l.number (suc l.n - l.number)) ≡ count_by
      (has_bit l.mask) (nodes l.n);
}
