use Rattle.std.proofs.Common.{sym}
use Rattle.urb_script.proofs.LinesAndWords.{first_of_words, only_word}
use Rattle.urb_script.proofs.words.first_word.Goals as goal

pub returns-in-Some : goal.returns-in-Some
returns-in-Some c = first_of_words c.args.text.now c.in-Some.at (sym c.in-Some.ensures)

pub returns-in-None : goal.returns-in-None
returns-in-None c = only_word c.args.text.now (sym c.in-None.ensures)
