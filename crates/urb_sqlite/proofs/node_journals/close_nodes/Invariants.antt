use Rattle.urb_sqlite.proofs.Common.{Device, IfErr, NoMemory, ◌≡◌, ◌⊎◌}
use Rattle.urb_sqlite.proofs.node_journals.close_nodes.Given as goal

-- a fault so far is one of these
abbrev pub invariant-loop-journal : goal.invariant-loop-journal
invariant-loop-journal g l = IfErr l.outcome (λ e. (e ≡ NoMemory) ⊎ (e ≡ Device))

abbrev pub decreases-loop-journal : goal.decreases-loop-journal
decreases-loop-journal g l = goal.left-loop-journal g l
