use Rattle.urb_show.proofs.AgreeingLists.{learnt_agrees}
use Rattle.urb_show.proofs.laws.who_learns_agrees.Goals as goal

pub returns : goal.returns
returns c opened token start first before last learns runs then =
    learnt_agrees opened token start first before last learns runs then
