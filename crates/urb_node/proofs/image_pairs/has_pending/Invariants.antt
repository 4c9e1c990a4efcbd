use Rattle.urb_node.proofs.Common.{drop, has_pair, list_all, pend, ◌≡◌}
use Rattle.urb_node.proofs.image_pairs.has_pending.Given as goal

-- the image has all pairs so far
abbrev pub invariant-loop-index : goal.invariant-loop-index
invariant-loop-index g l =
    list_all (λ pair. has_pair (pend l.image) pair.0 pair.1) (drop l.index l.pending.pairs)
    ≡ list_all (λ pair. has_pair (pend l.image) pair.0 pair.1) l.pending.pairs
