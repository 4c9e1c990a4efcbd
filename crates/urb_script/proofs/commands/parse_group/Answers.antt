use Rattle.std.proofs.Common.{rules, arith}
use Rattle.urb_script.proofs.Spellings.{left_some, next_words}
use Rattle.urb_script.proofs.commands.parse_group.Goals as goal

pub returns-in_err-cap-clause-none : goal.returns-in_err-cap-clause-none
returns-in_err-cap-clause-none c =
    rw c.from_residual-in_err-cap.ensures
    (λ limits range e. c.in_err-cap.ensures.none limits.cap _ (omega (arith, range.2)) range.3
    (next_words c.in_ok-n.ensures.some.0 e))

pub returns-then-is_some-clause-none : goal.returns-then-is_some-clause-none
returns-then-is_some-clause-none c =
    λ limits range e. left_some c.in_ok-cap.rest (search rules)
    (next_words c.in_ok-cap.ensures.some.0 (next_words c.in_ok-n.ensures.some.0 e))
