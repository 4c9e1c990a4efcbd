use Rattle.urb_group.proofs.stops.DraftPositions.{held-in-place}
use Rattle.urb_group.proofs.laws.a_held_draft_is_in_place.Goals as goal

pub returns : goal.returns
returns g c group w p draft store sound limits shows there h honest =
    held-in-place g.S.Stable group w p draft store sound limits shows there h honest
