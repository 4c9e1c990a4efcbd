use Rattle.urb_group.proofs.shown.AgreeingDeliveries.{deliveries-agree}
use Rattle.urb_group.proofs.delivering.deliveries_agree.Goals as goal

pub returns : goal.returns
returns c = deliveries-agree
