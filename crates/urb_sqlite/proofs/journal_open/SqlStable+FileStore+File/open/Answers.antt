use Rattle.urb_sqlite.proofs.Common.{IfOk-weaker, refl}
use Rattle.urb_sqlite.proofs.journal_open.SqlStable+FileStore+File.open.Goals as goal

pub returns-clause-fresh : goal.returns-clause-fresh
returns-clause-fresh c =
    IfOk-weaker c.open_from.result _ _ (λ s found clean. found.fresh clean refl)
    c.open_from.ensures.found
