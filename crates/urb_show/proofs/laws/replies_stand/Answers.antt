use Rattle.urb_show.proofs.ToldReplies.{reply_stands, reply_stays}
use Rattle.urb_show.proofs.laws.replies_stand.Goals as goal

pub returns-clause-told : goal.returns-clause-told
returns-clause-told c opened old new past moment event reply leads steps begins =
    reply_stands opened old new past moment event reply leads steps begins

pub returns-clause-stay : goal.returns-clause-stay
returns-clause-stay c opened moment later place event reply told begins =
    reply_stays opened moment later place event reply told begins
