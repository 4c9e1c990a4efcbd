use Rattle.urb_stubborn.proofs.Common.{to_others, ◌++◌, ◌-◌, ◌≡◌}
use Rattle.urb_stubborn.proofs.outbox.push_to_others.Given as goal

-- there is a packet to each other node before this one
abbrev pub invariant-loop-number : goal.invariant-loop-number
invariant-loop-number g l =
    l.packets.items ≡ l.fn.packets.items ++ to_others (l.number - 1) l.node l.certified l.heard
    (l.name, l.message)
