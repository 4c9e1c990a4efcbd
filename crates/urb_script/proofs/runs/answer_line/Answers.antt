use Rattle.std.proofs.Common.{rules}
use Rattle.urb_script.specs.internal.CommandLines.{command}
use Rattle.urb_script.proofs.Progress.{opens_line, plays_line}
use Rattle.urb_script.proofs.runs.answer_line.Goals as goal

pub returns-in-None-clause-answered : goal.returns-in-None-clause-answered
returns-in-None-clause-answered g c =
    opens_line g.P.Play.shows c.args.state c.in_ok-open-in-None.field-0 c.in-Group.config
    c.args.line.now c.open.new.text.items (search rules)
    (rw c.in-Group.is at c.in-Some.ensures.some) (search rules)

pub returns-clause-answered : goal.returns-clause-answered
returns-clause-answered g c =
    plays_line g.P.Play.shows c.args.state c.in-Some-state-2.state
    c.in_ok-play-in-Some-state-2.field-0
    (command c.in_default-found.found) c.args.line.now c.play.new.text.items (search rules)
    (search rules) (search rules)
