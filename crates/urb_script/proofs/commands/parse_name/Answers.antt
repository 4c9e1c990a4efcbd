use Rattle.std.proofs.Common.{arith}
use Rattle.urb_script.proofs.NameWords.{name_long, name_stop, name_front, name_tail}
use Rattle.urb_script.proofs.commands.parse_name.Goals as goal

pub returns-then-word-lt2-clause-none : goal.returns-then-word-lt2-clause-none
returns-then-word-lt2-clause-none c =
    λ name label e. name_long name c.args.word.now label e c.if-word-lt2.true

pub returns-then-word-ne46-clause-none : goal.returns-then-word-ne46-clause-none
returns-then-word-ne46-clause-none c =
    λ name label e. c.if-word-ne46.true (name_stop name c.args.word.now label e)

pub returns-in_err-sender-clause-none : goal.returns-in_err-sender-clause-none
returns-in_err-sender-clause-none c =
    rw c.from_residual.ensures (λ name label e.
    c.in_err-sender.ensures.none name.sender (omega (arith, label.sender))
    (omega (arith, label.sender)) (name_front name c.args.word.now label e))

pub returns-in_err-seq-clause-none : goal.returns-in_err-seq-clause-none
returns-in_err-seq-clause-none c =
    rw c.from_residual-in_err-seq.ensures
    (λ name label e. c.in_err-seq.ensures.none name.seq (omega (arith, label.seq))
    (omega (arith, label.seq)) (name_tail name c.args.word.now label e))
