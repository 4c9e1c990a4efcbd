-- What a lone node holds when it stops has a certificate for each of its pairs.
use Rattle.urb_world.proofs.recovery.UnstrandedGroups.{opens-free}
use Rattle.urb_world.proofs.starts.no_stop_strands_a_group.Goals as goal

pub returns : goal.returns
returns c = opens-free
