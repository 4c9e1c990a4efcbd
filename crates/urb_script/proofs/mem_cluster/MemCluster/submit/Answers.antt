use Rattle.std.proofs.Common.{sym}
use Rattle.urb_script.proofs.mem_cluster.MemCluster.submit.Goals as goal

pub returns-clause-shown : goal.returns-clause-shown
returns-clause-shown g c = rw (sym c.in_ok-payload.ensures) c.apply.ensures.shown
