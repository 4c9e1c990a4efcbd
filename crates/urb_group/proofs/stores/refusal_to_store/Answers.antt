use Rattle.urb_group.proofs.calls.StoreAnswers.{unstored-is}
use Rattle.urb_group.proofs.stores.refusal_to_store.Goals as goal

pub returns : goal.returns
returns g c = rw c.refusal_to_store_in.ensures (unstored-is _ _ _ c.requires c.state.ensures)
