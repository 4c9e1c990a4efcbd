-- Alone, a node stores no pair without its certificate.
use Rattle.urb_world.proofs.recovery.UnstrandedGroups.{new-free, stays-free}
use Rattle.urb_world.proofs.recovering.no_run_strands_a_group.Goals as goal

pub returns-clause-new : goal.returns-clause-new
returns-clause-new c = new-free

pub returns-clause-stays : goal.returns-clause-stays
returns-clause-stays c = stays-free
