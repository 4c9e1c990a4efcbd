use Rattle.std.proofs.lemmas.Result.{IfOk-weaker}
use Rattle.urb_options.specs.CommandLine.{bare_app, replay_app}
use Rattle.urb_options.proofs.BuiltCommands.{adds_below}
use Rattle.urb_options.proofs.grammar.make_command_line.Goals as goal

pub returns : goal.returns
returns c =
    let one =
    adds_below _ _ _ bare_app replay_app c.in_ok-subcommand.ensures c.bare_command.ensures
    c.replay_command.ensures in
    let two = adds_below _ _ _ _ _ c.in_ok-subcommand-2.ensures one c.in_ok-serve_command.ensures in
    let three =
    adds_below _ _ _ _ _ c.in_ok-subcommand-3.ensures two c.in_ok-submit_command.ensures in
    let four = adds_below _ _ _ _ _ c.in_ok-subcommand-4.ensures three c.in_ok-read_command.ensures in
    let five =
    adds_below _ _ _ _ _ c.in_ok-subcommand-5.ensures four c.in_ok-status_command.ensures in
    let six =
    adds_below _ _ _ _ _ c.in_ok-subcommand-6.ensures five c.in_ok-publish_command.ensures in
    IfOk-weaker c.subcommand-7.result _ _
    (λ made added. (adds_below _ _ _ _ _ added six c.in_ok-follow_command.ensures).0)
    c.subcommand-7.ensures
