use Rattle.urb_certified.proofs.Common.{has_name, name, true, ℕ, ◌-◌, ◌<◌, ◌^◌, ◌≡◌, ◌≤◌}
use Rattle.urb_certified.proofs.row.run_end.Given as goal

-- all names up to here are there
abbrev pub invariant-loop-end : goal.invariant-loop-end
invariant-loop-end l = record {
  first : l.start.seq ≤ l.end;
  last : l.end ≤ 2 ^ 32 - 1;
  held : (i : ℕ) → l.start.seq < i → i ≤ l.end → has_name l.names (name l.start.sender i) ≡ true;
}

abbrev pub decreases-loop-end : goal.decreases-loop-end
decreases-loop-end l = 2 ^ 32 - 1 - l.end
