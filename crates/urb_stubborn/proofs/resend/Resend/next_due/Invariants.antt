use Rattle.urb_stubborn.proofs.Common.{behind, due_pairs, length, ◌≡◌}
use Rattle.urb_stubborn.proofs.resend.Resend.next_due.Given as goal

-- what was passed is not due
abbrev pub invariant-loop-name : goal.invariant-loop-name
invariant-loop-name g l =
    behind l.at (due_pairs l.self l.pending.pairs) ≡ behind l.fn.cursor
    (due_pairs l.self l.pending.pairs)

abbrev pub decreases-loop-name : goal.decreases-loop-name
decreases-loop-name g l = length (behind l.at l.pending.pairs)
