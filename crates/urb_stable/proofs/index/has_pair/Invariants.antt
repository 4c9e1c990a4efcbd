use Rattle.urb_stable.proofs.RecordWalks.{Seeks, left}
use Rattle.urb_stable.proofs.index.has_pair.Given as goal

abbrev pub invariant-loop-place : goal.invariant-loop-place
invariant-loop-place g l = Seeks l.image l.name l.message l.place

abbrev pub decreases-loop-place : goal.decreases-loop-place
decreases-loop-place g l = left l.place
