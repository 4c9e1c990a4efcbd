use Rattle.urb_stubborn.proofs.Common.{is_due, ◌≡◌}
use Rattle.urb_stubborn.proofs.DueNames.{due_from}
use Rattle.urb_stubborn.proofs.due.is_due.Given as goal

-- the nodes before this one were heard
abbrev pub invariant-loop-number : goal.invariant-loop-number
invariant-loop-number g l =
    due_from l.fn.config.n l.node l.heard.marks l.name l.number
    ≡ is_due l.fn.config.n l.node l.heard.marks l.name
