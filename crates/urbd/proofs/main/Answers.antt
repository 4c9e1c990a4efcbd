use denote.Param.Send.{sendable}
use Rattle.std.proofs.Crossing.{crosses}
use Rattle.urb_folder.proofs.SendableFiles.{host_send, unnamed_send}
use Rattle.urbd.proofs.main.Goals as goal

pub run_program-requires-send-D : goal.run_program-requires-send-D
run_program-requires-send-D g c κs =
    let a = host_send in let b = unnamed_send in search (crosses, sendable) depth 200 fits 100000
