use Rattle.urb_show.proofs.PlacedPages.{agree_in_places}
use Rattle.urb_show.proofs.laws.lists_agree_by_their_places.Goals as goal

pub returns : goal.returns
returns c opened past later these those sound one here there =
    agree_in_places opened past later these those sound one here there
