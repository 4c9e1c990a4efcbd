use Rattle.urb_stubborn.specs.internal.TickWalks.{between, due_pairs}
use Rattle.urb_stubborn.proofs.TickProgress.{Walks}
use Rattle.urb_stubborn.proofs.resend.Resend.send.Given as goal

-- the names so far have their packets
abbrev pub invariant-loop-left : goal.invariant-loop-left
invariant-loop-left g l =
    Walks l.self l.certified.names
    (between l.fn.walk.from l.last (due_pairs l.self l.pending.pairs))
    l.fn.walk.turn l.fn.packets.items l.left
    (between l.at l.last (due_pairs l.self l.pending.pairs)) l.cursor l.packets.items

abbrev pub decreases-loop-left : goal.decreases-loop-left
decreases-loop-left g l = l.left
