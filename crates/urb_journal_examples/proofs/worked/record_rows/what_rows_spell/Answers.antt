-- The one payload has a byte.
use Rattle.std.proofs.Common.{arith, ◌≤◌}
use Rattle.urb_journal_examples.specs.internal.JournalValues.{holding}
use Rattle.urb_journal_examples.proofs.worked.record_rows.what_rows_spell.Goals as goal

pub returns-clause-no_longer_payload : goal.returns-clause-no_longer_payload
returns-clause-no_longer_payload c h =
    let short : 1 ≤ 0 = (h.limits 0 (holding "a") (omega arith)).payload in omega (arith, short)
