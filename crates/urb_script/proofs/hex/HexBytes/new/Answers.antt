use Rattle.std.proofs.Common.{rules}
use Rattle.urb_script.proofs.HexWords.{no_word, odd_word, other_word, digits_word}
use Rattle.urb_script.proofs.hex.HexBytes.new.Goals as goal

pub returns-then-is_empty-clause-none : goal.returns-then-is_empty-clause-none
returns-then-is_empty-clause-none c = λ bytes w. no_word bytes c.args.word.now (search rules) w

pub returns-then-word-ne0-clause-none : goal.returns-then-word-ne0-clause-none
returns-then-word-ne0-clause-none c =
    λ bytes w. odd_word bytes c.args.word.now c.if-word-ne0.true (search rules) w

pub returns-then-not-all_digits-clause-none : goal.returns-then-not-all_digits-clause-none
returns-then-not-all_digits-clause-none c =
    λ bytes w. other_word c.all_digits.result bytes c.args.word.now c.all_digits.ensures
    (search rules) (search rules) w

pub returns-clause-some : goal.returns-clause-some
returns-clause-some c =
    digits_word c.all_digits.result c.args.word.now (search rules)
    (search rules) c.all_digits.ensures (search rules)
