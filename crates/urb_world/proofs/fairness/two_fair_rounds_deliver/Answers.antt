-- Two fair rounds deliver.
use Rattle.urb_world.proofs.rounds.FairRounds.{two-rounds}
use Rattle.urb_world.proofs.fairness.two_fair_rounds_deliver.Goals as goal

pub returns : goal.returns
returns c = two-rounds
