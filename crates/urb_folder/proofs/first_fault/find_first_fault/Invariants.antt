use Rattle.urb_folder.proofs.Common.{All, IsOpen, take}
use Rattle.urb_folder.proofs.first_fault.find_first_fault.Given as goal

-- the outcomes so far are successes
abbrev pub invariant-loop-outcome : goal.invariant-loop-outcome
invariant-loop-outcome g l = All IsOpen (take l.outcome-index l.fn.outcomes)
