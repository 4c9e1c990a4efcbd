-- Ticks end after three rounds.
use Rattle.urb_world.proofs.rounds.SilentTicks.{three-rounds}
use Rattle.urb_world.proofs.fairness.ticks_end.Goals as goal

pub returns : goal.returns
returns c = three-rounds
