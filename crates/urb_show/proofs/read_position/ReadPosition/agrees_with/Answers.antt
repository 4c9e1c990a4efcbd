use Rattle.urb_show.proofs.AgreeingLists.{of_one_history}
use Rattle.urb_show.proofs.ListBeginnings.{longer_begins}
use Rattle.urb_show.proofs.read_position.ReadPosition.agrees_with.Goals as goal

pub returns-clause-lists : goal.returns-clause-lists
returns-clause-lists g c =
    let e = c.longer_of.ensures in
    rw (← c.self.view_is, ← c.other.view_is)
    (of_one_history _ _ (longer_begins g.K.HouseName.base c.self.inside.seen c.other.inside.seen
    _ e.one e.this e.that) c.self.invariant.0 c.other.invariant.0)
