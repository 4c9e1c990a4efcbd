use Rattle.std.proofs.Common.{arith}
use Rattle.urb_script.proofs.Spellings.{next_words}
use Rattle.urb_script.proofs.commands.parse_submit.Goals as goal

pub returns-in_err-client-clause-none : goal.returns-in_err-client-clause-none
returns-in_err-client-clause-none c =
    rw c.from_residual-in_err-client.ensures
    (λ node client number payload range e.
    c.in_err-client.ensures.none client _ range.1 range.2
    (next_words c.in_ok-node.ensures.some.0 e))

pub returns-in_err-number-clause-none : goal.returns-in_err-number-clause-none
returns-in_err-number-clause-none c =
    rw c.from_residual-in_err-number.ensures
    (λ node client number payload range e.
    c.in_err-number.ensures.none number _ (omega arith) range.3
    (next_words c.in_ok-client.ensures.some.0 (next_words c.in_ok-node.ensures.some.0 e)))
