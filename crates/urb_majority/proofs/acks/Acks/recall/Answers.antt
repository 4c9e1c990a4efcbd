use Rattle.std.proofs.Common.{subst}
use Rattle.urb_majority.specs.Acks.{IsAckSet}
use Rattle.urb_majority.proofs.acks.Acks.recall.Goals as goal

pub returns : goal.returns
returns g c =
    subst IsAckSet c.self.view_is
    (record { counted = c.recall.ensures.marks; certified = c.recall-2.ensures })
