-- Two rounds that are played deliver.
use Rattle.urb_group.proofs.calls.CommandRounds.{played-deliver}
use Rattle.urb_group.proofs.fairness.two_played_rounds_deliver.Goals as goal

pub returns : goal.returns
returns g c = played-deliver
