use Rattle.urb_options.proofs.Common.{IfOk-weaker, client_app, codes, rules}
use Rattle.urb_options.proofs.BuiltCommands.{adds}
use Rattle.urb_options.proofs.grammar.submit_command.Goals as goal

pub returns : goal.returns
returns c =
    let one =
    adds _ _ _ (client_app (codes "submit")) _ c.in_ok-arg.ensures
    (search rules) c.number_option.ensures.rule c.number_option.ensures.own in
    let two =
    adds _ _ _ _ _ c.in_ok-arg-2.ensures one c.number_option-2.ensures.rule
    c.number_option-2.ensures.own in
    IfOk-weaker c.arg-3.result _ _
    (λ made added. adds _ _ _ _ _ added two c.text_word.ensures.rule
    c.text_word.ensures.own) c.arg-3.ensures
