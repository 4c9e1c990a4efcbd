-- All parts are there.
use Rattle.urb_worker.proofs.worked.listenings.groups_with_all_listeners.Goals as goal

pub returns-clause-of_one : goal.returns-clause-of_one
returns-clause-of_one c = λ it last nodes pace. (last, nodes, pace)

pub returns-clause-of_four : goal.returns-clause-of_four
returns-clause-of_four c = λ it last nodes pace. (last, nodes, pace)

pub returns-clause-of_seven : goal.returns-clause-of_seven
returns-clause-of_seven c = λ it last nodes pace. (last, nodes, pace)
