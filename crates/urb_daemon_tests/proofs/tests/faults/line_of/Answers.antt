use denote.Param.Send.{sendable}
use Rattle.std.proofs.Crossing.{crosses}
use Rattle.urb_folder.proofs.SendableFiles.{host_send, unnamed_send}
use Rattle.urb_daemon_tests.proofs.tests.faults.line_of.Goals as goal

pub open_journals-requires-send-D : goal.open_journals-requires-send-D
open_journals-requires-send-D g c κs =
    let a = host_send in let b = unnamed_send in search (crosses, sendable) depth 200 fits 100000
