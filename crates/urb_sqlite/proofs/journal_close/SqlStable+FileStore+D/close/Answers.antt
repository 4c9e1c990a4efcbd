use Rattle.urb_sqlite.proofs.Common.{Held, file_state, subst}
use Rattle.urb_sqlite.proofs.journal_close.SqlStable+FileStore+D.close.Goals as goal

pub invariant_of-result : goal.invariant_of-result
invariant_of-result g c clean =
    let is = c.in-Ok.ensures.copied clean in
    ∣ record {
      db = (file_state c.into_file_connection.result).committed.trees;
      seen = is.seen;
      left = is.left;
    } ∣₁

pub returns-in-Err-clause-left : goal.returns-in-Err-clause-left
returns-in-Err-clause-left g c = record {
  last = c.in-Err.store;
  over = c.close-files.ensures;
  fewer = λ db may. subst (λ (conn : Held _). (file_state conn).may_leave db)
      c.into_file_connection.ensures (c.in-Err.ensures.err.0.quiet.outcomes db may);
}
