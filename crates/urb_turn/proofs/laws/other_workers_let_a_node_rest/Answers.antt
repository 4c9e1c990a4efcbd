use Rattle.urb_turn.proofs.OtherNodes.{others-rest, rests-none, rests-on}
use Rattle.urb_turn.proofs.laws.other_workers_let_a_node_rest.Goals as goal

pub returns-clause-turn : goal.returns-clause-turn
returns-clause-turn g c opened n m j before after came turn runs other =
    others-rest g.S.Stable opened n m j before after came turn runs other

pub returns-clause-none : goal.returns-clause-none
returns-clause-none g c n past = rests-none n past

pub returns-clause-on : goal.returns-clause-on
returns-clause-on g c n first second third earlier later =
    rests-on n first second third earlier later
