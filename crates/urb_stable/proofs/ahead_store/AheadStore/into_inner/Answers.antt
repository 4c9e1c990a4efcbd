use Rattle.urb_stable.proofs.RecordsAhead.{left-ahead}
use Rattle.urb_stable.proofs.ahead_store.AheadStore.into_inner.Goals as goal

pub returns-clause-left : goal.returns-clause-left
returns-clause-left g c = λ certain doubtful. left-ahead g.S.Stable c.args.self _
