-- Two busy rounds among a majority deliver what it held.
use Rattle.urb_world.proofs.rounds.FairRounds.{busy-among}
use Rattle.urb_world.proofs.fairness.a_busy_majority_delivers_what_it_held.Goals as goal

pub returns : goal.returns
returns c = busy-among
