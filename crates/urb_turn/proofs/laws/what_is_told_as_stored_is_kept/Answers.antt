use Rattle.urb_turn.proofs.Common.{Ends, subst, ◌-◌}
use Rattle.urb_turn.proofs.OtherNodes.{stored-in}
use Rattle.urb_turn.proofs.laws.what_is_told_as_stored_is_kept.Goals as goal

pub returns : goal.returns
returns g c opened j before after came done turn said =
    let kept =
    stored-in g.S.Stable before after j turn.lent turn.given_back turn.lent_again turn.left
    turn.at turn.new turn.events (came.events - turn.events)
    came.status came.settling done turn.begins turn.stores
    (subst (λ r. Ends turn.lent_again j turn.new turn.left r came.status came.settling
    (came.events - turn.events)) said turn.finishes) in
    (kept.draft, kept.drafted, kept.kept, kept.certain)
