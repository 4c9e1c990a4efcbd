use denote.Param.Send.{sendable}
use Rattle.std.proofs.Crossing.{crosses}
use Rattle.urb_folder.proofs.SendableFiles.{host_send, unnamed_send}
use Rattle.urb_daemon_tests.proofs.tests.programs.run_with.Goals as goal

pub run_program-status-requires-send-D : goal.run_program-status-requires-send-D
run_program-status-requires-send-D g c κs =
    let a = host_send in let b = unnamed_send in search (crosses, sendable) depth 200 fits 100000
