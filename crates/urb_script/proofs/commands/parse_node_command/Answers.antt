use Rattle.urb_script.proofs.Common.{codes, words_left, ◌≡◌}
use Rattle.urb_script.proofs.Spellings.{no_keyword, no_node, not_word}
use Rattle.urb_script.proofs.commands.parse_node_command.Goals as goal

pub returns-in_err-node-clause-none : goal.returns-in_err-node-clause-none
returns-in_err-node-clause-none c =
    rw c.from_residual.ensures
    (no_node c.args.word.now (words_left c.args.rest) c.in_err-node.ensures.none)

pub returns-clause-none : goal.returns-clause-none
returns-clause-none c =
    no_keyword c.args.word.now (words_left c.args.rest)
    (not_word c.is_word.result (c.args.word.now ≡ codes "stored") c.is_word.ensures
    c.if-is_word.false)
    (not_word c.is_word-2.result (c.args.word.now ≡ codes "crash") c.is_word-2.ensures
    c.if-is_word-2.false)
    (not_word c.is_word-3.result (c.args.word.now ≡ codes "restart") c.is_word-3.ensures
    c.if-is_word-3.false)
    (not_word c.is_word-4.result (c.args.word.now ≡ codes "tick") c.is_word-4.ensures
    c.if-is_word-4.false)
    (not_word c.is_word-5.result (c.args.word.now ≡ codes "log") c.is_word-5.ensures
    c.if-is_word-5.false)
