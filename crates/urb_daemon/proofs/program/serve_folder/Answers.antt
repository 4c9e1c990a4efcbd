use Rattle.std.proofs.Common.{inr}
use Rattle.urb_daemon.proofs.program.serve_folder.Goals as goal

pub returns-in-Ok : goal.returns-in-Ok
returns-in-Ok g c = inr c.run_folder.ensures
