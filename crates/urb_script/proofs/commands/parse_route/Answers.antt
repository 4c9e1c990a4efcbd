use Rattle.std.proofs.Common.{arith}
use Rattle.urb_script.proofs.Spellings.{next_words, first_number}
use Rattle.urb_script.proofs.commands.parse_route.Goals as goal

pub returns-in_err-node-clause-none : goal.returns-in_err-node-clause-none
returns-in_err-node-clause-none c =
    rw c.from_residual-in_err-node.ensures
    (λ source node name words route label e.
    c.in_err-node.ensures.none node _ route.node.0 route.node.1
    (next_words c.in_ok-source.ensures.some.0 e))

pub returns-in_err-sender-clause-none : goal.returns-in_err-sender-clause-none
returns-in_err-sender-clause-none c =
    rw c.from_residual-in_err-sender.ensures
    (λ source node name words route label e.
    c.in_err-sender.ensures.none name.sender _ (omega (arith, label.sender))
    (omega (arith, label.sender))
    (next_words c.in_ok-node.ensures.some.0 (next_words c.in_ok-source.ensures.some.0 e)))

pub returns-in_err-seq-clause-none : goal.returns-in_err-seq-clause-none
returns-in_err-seq-clause-none c =
    rw c.from_residual-in_err-seq.ensures
    (λ source node name words route label e.
    c.in_err-seq.ensures.none name.seq _ (omega (arith, label.seq)) (omega (arith, label.seq))
    (next_words c.in_ok-sender.ensures.some.0
    (next_words c.in_ok-node.ensures.some.0 (next_words c.in_ok-source.ensures.some.0 e))))

pub returns-then-source-node-clause-none : goal.returns-then-source-node-clause-none
returns-then-source-node-clause-none c = λ source node name words route label e.
    let one =
    first_number c.in_ok-source.source source c.in_ok-source.ensures.some.2 route.source.1
    c.in_ok-source.ensures.some.0 e in
    let two =
    first_number c.in_ok-node.node node c.in_ok-node.ensures.some.2 route.node.1
    c.in_ok-node.ensures.some.0 (next_words c.in_ok-source.ensures.some.0 e) in
    route.apart (omega (arith, one, two))
