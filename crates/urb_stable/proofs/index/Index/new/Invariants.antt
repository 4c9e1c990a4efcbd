use Rattle.urb_stable.specs.internal.Indexes.{IsIndexOf}
use Rattle.urb_stable.proofs.index.Index.new.Given as goal

abbrev pub invariant-loop-place : goal.invariant-loop-place
invariant-loop-place g l = IsIndexOf l.image l.place l.places
