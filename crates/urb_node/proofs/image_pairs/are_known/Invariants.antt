use Rattle.urb_node.proofs.Common.{drop, has_pair, list_all, pairs_with, pend, ◌≡◌}
use Rattle.urb_node.proofs.image_pairs.are_known.Given as goal

-- all pairs so far are known
abbrev pub invariant-loop-record : goal.invariant-loop-record
invariant-loop-record g l =
    list_all (λ pair. has_pair (pairs_with l.pending.pairs l.doubt) pair.0 pair.1)
    (pend (drop l.record-index l.image))
    ≡ list_all (λ pair. has_pair (pairs_with l.pending.pairs l.doubt) pair.0 pair.1) (pend l.image)
