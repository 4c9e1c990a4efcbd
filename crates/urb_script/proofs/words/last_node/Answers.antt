use Rattle.std.proofs.Common.{rules}
use Rattle.urb_script.proofs.Spellings.{left_some, next_words}
use Rattle.urb_script.proofs.words.last_node.Goals as goal

pub returns-then-is_some-clause-none : goal.returns-then-is_some-clause-none
returns-then-is_some-clause-none c =
    λ node range e. left_some c.in_ok-number.rest (search rules)
    (next_words c.in_ok-number.ensures.some.0 e)
