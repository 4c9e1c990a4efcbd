use Rattle.urb_stubborn.proofs.Common.{false, is_due, name, ℕ, ◌-◌, ◌<◌, ◌≡◌, ◌≤◌}
use Rattle.urb_stubborn.proofs.due.settle_from.Given as goal

-- no name is due so far
abbrev pub invariant-loop-end : goal.invariant-loop-end
invariant-loop-end g l =
    (l.from ≤ l.end) × ((k : ℕ) → l.from < k → k ≤ l.end
    → is_due l.config.n l.node l.heard.marks (name l.sender k) ≡ false)

abbrev pub decreases-loop-end : goal.decreases-loop-end
decreases-loop-end g l = 4294967295 - l.end
