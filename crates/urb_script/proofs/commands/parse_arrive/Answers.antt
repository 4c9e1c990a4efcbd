use Rattle.std.proofs.Common.{rules}
use Rattle.urb_script.proofs.Spellings.{left_some, words_behind}
use Rattle.urb_script.proofs.commands.parse_arrive.Goals as goal

pub returns-then-is_some-clause-none : goal.returns-then-is_some-clause-none
returns-then-is_some-clause-none c =
    λ source node name range e. left_some c.in-Some.rest (search rules)
    (words_behind c.in-Some.ensures.some.0 e)
