use Rattle.std.proofs.lemmas.Result.{IfOk-weaker}
use Rattle.urb_options.proofs.BuiltCommands.{adds}
use Rattle.urb_options.proofs.grammar.service_command.Goals as goal

pub returns : goal.returns
returns c =
    let one =
    adds _ _ _ _ _ c.in_ok-arg.ensures c.in_ok-group_command.ensures
    c.optional_number.ensures.rule c.optional_number.ensures.own in
    let two =
    adds _ _ _ _ _ c.in_ok-arg-2.ensures one c.optional_number-2.ensures.rule
    c.optional_number-2.ensures.own in
    IfOk-weaker c.arg-3.result _ _
    (λ made added. adds _ _ _ _ _ added two c.flag.ensures.rule c.flag.ensures.own)
    c.arg-3.ensures
