-- Two rounds among a majority deliver what it holds.
use Rattle.urb_world.proofs.rounds.FairRounds.{two-among}
use Rattle.urb_world.proofs.fairness.a_majority_delivers_what_it_holds.Goals as goal

pub returns : goal.returns
returns c = two-among
