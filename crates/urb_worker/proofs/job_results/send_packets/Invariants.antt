use Rattle.std.proofs.Common.{take}
use Rattle.urb_worker.specs.Acts.{Sends}
use Rattle.urb_worker.proofs.job_results.send_packets.Given as goal

-- the packets so far
abbrev pub invariant-loop-index : goal.invariant-loop-index
invariant-loop-index g l = Sends l.fn.outlets (take l.index l.packets) l.outlets
