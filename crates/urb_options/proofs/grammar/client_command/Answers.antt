use Rattle.urb_options.proofs.Common.{IfOk-weaker, new_app, rules}
use Rattle.urb_options.proofs.BuiltCommands.{adds}
use Rattle.urb_options.proofs.grammar.client_command.Goals as goal

pub returns : goal.returns
returns c =
    let one =
    adds _ _ _ (new_app c.args.name.now) _ c.in_ok-arg.ensures
    (search rules) c.optional_number.ensures.rule c.optional_number.ensures.own in
    IfOk-weaker c.arg-2.result _ _
    (λ made added. adds _ _ _ _ _ added one c.optional_text.ensures.rule
    c.optional_text.ensures.own) c.arg-2.ensures
