use Rattle.urb_show.proofs.AcceptedEntries.{accepted_everywhere}
use Rattle.urb_show.proofs.AgreeingPages.{in_page}
use Rattle.urb_show.specs.Lists.{list_at}
use Rattle.urb_show.proofs.laws.what_is_accepted_is_what_pages_show.Goals as goal

pub returns : goal.returns
returns c opened past later p q first most x m lists page e sound one accepted delivered is h name =
    accepted_everywhere opened past later p q x m lists e sound one accepted delivered
    (in_page (list_at lists q) first most page e is h) name
