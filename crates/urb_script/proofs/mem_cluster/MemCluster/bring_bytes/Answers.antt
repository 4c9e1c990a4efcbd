use Rattle.std.proofs.Common.{sym}
use Rattle.urb_script.proofs.mem_cluster.MemCluster.bring_bytes.Goals as goal

pub returns-clause-shown : goal.returns-clause-shown
returns-clause-shown g c = rw (sym c.in_ok-bytes.ensures) c.apply.ensures.shown
