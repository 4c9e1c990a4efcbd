use Rattle.urb_show.proofs.AgreeingLists.{earlier_across, goes_on_begins}
use Rattle.urb_show.proofs.AgreeingPages.{readers_never_contradict}
use Rattle.urb_show.proofs.laws.readers_agree.Goals as goal

pub returns-clause-across : goal.returns-clause-across
returns-clause-across c opened first last other latest runs goes one =
    earlier_across _ _ _ _ (goes_on_begins opened first last runs)
    (goes_on_begins opened other latest goes) one

pub returns-clause-pages : goal.returns-clause-pages
returns-clause-pages c opened first last other latest p q place spot most more a b runs goes one
    here there =
    readers_never_contradict opened first last other latest p q place spot most more a b runs goes
    one here there
