use Rattle.std.proofs.Common.{rules}
use Rattle.urb_script.proofs.Spellings.{left_some, next_words, words_behind}
use Rattle.urb_script.proofs.commands.parse_arrive_flagged.Goals as goal

pub returns-then-is_some-clause-none : goal.returns-then-is_some-clause-none
returns-then-is_some-clause-none c =
    λ source node name flags range e.
    left_some c.in_ok-number.rest (search rules)
    (next_words c.in_ok-number.ensures.some.0 (words_behind c.in-Some.ensures.some.0 e))
