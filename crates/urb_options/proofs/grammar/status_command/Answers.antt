use Rattle.urb_options.proofs.Common.{IfOk-weaker, client_app, codes, rules}
use Rattle.urb_options.proofs.BuiltCommands.{adds}
use Rattle.urb_options.proofs.grammar.status_command.Goals as goal

pub returns : goal.returns
returns c =
    let one =
    adds _ _ _ (client_app (codes "status")) _ c.in_ok-arg.ensures
    (search rules) c.optional_number.ensures.rule c.optional_number.ensures.own in
    IfOk-weaker c.arg-2.result _ _
    (λ made added. adds _ _ _ _ _ added one c.optional_number-2.ensures.rule
    c.optional_number-2.ensures.own) c.arg-2.ensures
