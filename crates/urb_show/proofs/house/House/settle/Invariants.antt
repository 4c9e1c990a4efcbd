use Rattle.urb_show.proofs.Common.{Grew, length, list_at, lists_in, ◌-◌, ◌≡◌, ◌≤◌}
use Rattle.urb_show.proofs.house.House.settle.Given as goal

abbrev pub invariant-loop-node : goal.invariant-loop-node
invariant-loop-node g l =
    Grew (l.node - 1) l.fn.self l.self × (l.node ≤ length l.self.group.nodes)
    × (l.moment-inside.token ≡ l.self.past)

abbrev pub decreases-loop-node : goal.decreases-loop-node
decreases-loop-node g l =
    length (list_at (lists_in l.self.group) (l.node - 1)) - length
    (list_at l.self.prepared (l.node - 1))
