-- From every world of a run there is a round.
use Rattle.urb_world.proofs.rounds.RoundExistence.{round-exists}
use Rattle.urb_world.proofs.fairness.rounds_exist.Goals as goal

pub returns : goal.returns
returns c = round-exists
