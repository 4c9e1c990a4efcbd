use Rattle.std.specs.Prelude.{option_map}
use Rattle.urb_stable.proofs.RecordWalks.{Looks, left}
use Rattle.urb_stable.proofs.index.find_before.Given as goal

abbrev pub invariant-loop-next : goal.invariant-loop-next
invariant-loop-next g l = Looks l.image l.name l.place (option_map (λ m. m.now) l.found) l.next

abbrev pub decreases-loop-next : goal.decreases-loop-next
decreases-loop-next g l = left l.next
