use Rattle.urb_folder.proofs.Common.{All, IsOpen, Ok, length, map, vec_capacity, vec_len, ◌++◌, ◌+◌}
use Rattle.urb_folder.proofs.Common.{◌≡◌, ◌≤◌}
use Rattle.urb_folder.proofs.first_fault.unwrap_all.Given as goal

-- those unwrapped so far come before the others, which are successes too, and there is room for all
abbrev pub invariant-loop-outcome : goal.invariant-loop-outcome
invariant-loop-outcome g l = (goal.iterator-loop-outcome g).can_next l.outcome-iterator ×
    (goal.iterator-loop-outcome g).is_finite l.outcome-iterator ×
    (map Ok l.all.items ++ l.outcome-iterator.rest.items ≡ l.fn.outcomes.items) ×
    All IsOpen l.outcome-iterator.rest.items ×
    (vec_len l.all + length l.outcome-iterator.rest.items ≤ vec_capacity l.all)
