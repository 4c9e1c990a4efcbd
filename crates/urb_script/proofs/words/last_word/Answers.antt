use Rattle.urb_script.proofs.Common.{rules, words_left}
use Rattle.urb_script.proofs.Spellings.{one_word}
use Rattle.urb_script.proofs.words.last_word.Goals as goal

pub returns-then-is_some-clause-none : goal.returns-then-is_some-clause-none
returns-then-is_some-clause-none c =
    λ word e. one_word c.first_word.result.0.now word c.first_word.result.1 (words_left c.args.rest)
    (search rules) (search rules) e
