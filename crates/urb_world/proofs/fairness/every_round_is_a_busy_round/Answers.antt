-- Every round is a busy round.
use Rattle.urb_world.proofs.rounds.BusyRounds.{round-busy}
use Rattle.urb_world.proofs.fairness.every_round_is_a_busy_round.Goals as goal

pub returns : goal.returns
returns c = round-busy
