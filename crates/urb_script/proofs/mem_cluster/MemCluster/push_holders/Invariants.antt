use Rattle.urb_script.proofs.Common.{Shows, World, decimal, flat_map, is_some, message_of}
use Rattle.urb_script.proofs.Common.{numbers_from, pend, stored, ◌++◌, ◌+◌, ◌-◌, ◌∷◌, ◌≡◌}
use Rattle.std.specs.List.{filter}
use Rattle.urb_script.specs.Steps.{holders}
use Rattle.urb_script.proofs.mem_cluster.MemCluster.push_holders.Given as goal

-- what is written so far, and the nodes that are left
abbrev pub invariant-loop-number : goal.invariant-loop-number
invariant-loop-number g l =
    (w : World) → Shows l.fn.self.cluster.group w → l.fn.self.config ≡ w.size →
    l.text.items ++ flat_map (λ q. 32 ∷ decimal q)
    (filter (λ p. is_some (message_of (pend (stored w p)) l.fn.name))
    (numbers_from l.number (w.size.n + 1 - l.number)))
    ≡ l.fn.text.items ++ flat_map (λ q. 32 ∷ decimal q) (holders w l.fn.name)
