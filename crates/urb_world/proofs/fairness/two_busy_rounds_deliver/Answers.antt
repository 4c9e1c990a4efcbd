-- Two busy rounds deliver what was stored before them.
use Rattle.urb_world.proofs.rounds.FairRounds.{two-busy-rounds}
use Rattle.urb_world.proofs.fairness.two_busy_rounds_deliver.Goals as goal

pub returns : goal.returns
returns c = two-busy-rounds
