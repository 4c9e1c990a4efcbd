use Rattle.urb_turn.proofs.Common.{Some, change_by, subst, ◌≡◌}
use Rattle.urb_turn.proofs.ReportedChanges.{failure-reported, reported-so}
use Rattle.urb_turn.proofs.laws.what_is_reported_has_happened.Goals as goal

pub returns-clause-happened : goal.returns-clause-happened
returns-clause-happened g c opened j before after came change turn same told =
    reported-so g.S.Stable before after turn.lent turn.given_back turn.lent_again turn.left turn.at
    turn.new turn.events came.events came.reply came.status came.settling j change
    turn.begins turn.stores turn.finishes
    (subst (λ i. change_by i came.reply came.events ≡ Some change) same told)

pub returns-clause-failed : goal.returns-clause-failed
returns-clause-failed g c opened j before after came doubt turn same here other =
    rw same (failure-reported g.S.Stable before after turn.lent turn.given_back turn.lent_again
    turn.left turn.at turn.new turn.events came.events came.reply came.status came.settling j
    doubt
    turn.begins turn.stores turn.finishes here other)
