use Rattle.urb_node.proofs.Common.{IsReleaseOf, cert, reverse, take, ◌≡◌}
use Rattle.urb_node.proofs.image_verdict.release_certificates.Given as goal

-- what the certificates so far release
abbrev pub invariant-loop-record : goal.invariant-loop-record
invariant-loop-record g l =
    (l.fifo.limits ≡ l.config) × IsReleaseOf (reverse (cert (take l.record-index l.image))) l.fifo
