use Rattle.urb_stubborn.proofs.Common.{acked, false, filter, not, others, packets_to, ◌++◌, ◌-◌}
use Rattle.urb_stubborn.proofs.Common.{◌≡◌}
use Rattle.urb_stubborn.proofs.outbox.push_to_unheard.Given as goal

-- there is a packet to each other node before this one that was not heard
abbrev pub invariant-loop-number : goal.invariant-loop-number
invariant-loop-number g l =
    l.packets.items ≡ l.fn.packets.items ++ packets_to l.node
    (λ q. record { certified = l.certified; heard = false })
    (filter (λ q. not (acked l.heard.marks l.name q)) (others (l.number - 1) l.node))
    (l.name, l.message)
