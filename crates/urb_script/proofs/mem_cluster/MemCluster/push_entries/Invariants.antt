use Rattle.urb_script.proofs.Common.{Shows, World, drop, entry_text, flat_map, is_node, map}
use Rattle.urb_script.proofs.Common.{message_of, pend, stored, true, ◌++◌, ◌≡◌}
use Rattle.urb_script.proofs.mem_cluster.MemCluster.push_entries.Given as goal

-- what is written so far, and what is left
abbrev pub invariant-loop-name : goal.invariant-loop-name
invariant-loop-name g l =
    (w : World) → Shows l.fn.self.cluster.group w → is_node w.size.n l.fn.node ≡ true →
    l.text.items ++ flat_map entry_text
    (map (λ x. (x, message_of (pend (stored w l.fn.node)) x)) (drop l.name-index l.names))
    ≡ l.fn.text.items ++ flat_map entry_text
    (map (λ x. (x, message_of (pend (stored w l.fn.node)) x)) l.names)
