use Rattle.urb_options.proofs.Common.{IfOk-weaker, codes, new_app, rules}
use Rattle.urb_options.proofs.BuiltCommands.{adds}
use Rattle.urb_options.proofs.grammar.group_command.Goals as goal

pub returns : goal.returns
returns c =
    let one =
    adds _ _ _ (new_app (codes "serve")) _ c.in_ok-arg.ensures
    (search rules) c.number_option.ensures.rule c.number_option.ensures.own in
    let two =
    adds _ _ _ _ _ c.in_ok-arg-2.ensures one c.number_option-2.ensures.rule
    c.number_option-2.ensures.own in
    let three =
    adds _ _ _ _ _ c.in_ok-arg-3.ensures two c.text_option.ensures.rule
    c.text_option.ensures.own in
    let four =
    adds _ _ _ _ _ c.in_ok-arg-4.ensures three c.number_option-3.ensures.rule
    c.number_option-3.ensures.own in
    IfOk-weaker c.arg-5.result _ _
    (λ made added. adds _ _ _ _ _ added four c.number_option-4.ensures.rule
    c.number_option-4.ensures.own) c.arg-5.ensures
