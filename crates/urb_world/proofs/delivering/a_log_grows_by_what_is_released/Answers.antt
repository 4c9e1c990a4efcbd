use Rattle.urb_world.proofs.safety.StoredRecords.{commit-released}
use Rattle.urb_world.proofs.delivering.a_log_grows_by_what_is_released.Goals as goal

pub returns : goal.returns
returns c w p position entry done told = commit-released done w p position entry told
