use Rattle.urb_options.proofs.Common.{IfOk-weaker, client_app, codes, rules}
use Rattle.urb_options.proofs.BuiltCommands.{adds}
use Rattle.urb_options.proofs.stream_grammar.publish_command.Goals as goal

pub returns : goal.returns
returns c =
    let one =
    adds _ _ _ (client_app (codes "publish")) _ c.in_ok-arg.ensures
    (search rules) c.number_option.ensures.rule c.number_option.ensures.own in
    IfOk-weaker c.arg-2.result _ _
    (λ made added. adds _ _ _ _ _ added one c.optional_word.ensures.rule
    c.optional_word.ensures.own) c.arg-2.ensures
