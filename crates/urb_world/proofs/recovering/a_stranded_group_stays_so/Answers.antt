-- Alone, a node hears no packet.
use Rattle.urb_world.proofs.recovery.StrandedGroups.{stays-stranded}
use Rattle.urb_world.proofs.recovering.a_stranded_group_stays_so.Goals as goal

pub returns : goal.returns
returns c = stays-stranded
