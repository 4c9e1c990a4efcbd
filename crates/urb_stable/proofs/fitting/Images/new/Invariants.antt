use Rattle.urb_stable.proofs.ReadImages.{AreRead}
use Rattle.urb_stable.proofs.fitting.Images.new.Given as goal

abbrev pub invariant-loop-i : goal.invariant-loop-i
invariant-loop-i g l = AreRead (λ image. image.items) l.images l.i l.read.items
