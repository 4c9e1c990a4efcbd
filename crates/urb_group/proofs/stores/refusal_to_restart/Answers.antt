use Rattle.urb_group.proofs.calls.StoreAnswers.{unfallen-is}
use Rattle.urb_group.proofs.stores.refusal_to_restart.Goals as goal

pub returns : goal.returns
returns g c = rw c.refusal_to_restart_in.ensures (unfallen-is _ _ _ c.requires c.state.ensures)
