use Rattle.std.proofs.Common.{rules}
use Rattle.urb_script.proofs.Spellings.{left_some}
use Rattle.urb_script.proofs.commands.parse_reopen.Goals as goal

pub returns-in-Some-clause-none : goal.returns-in-Some-clause-none
returns-in-Some-clause-none c = λ e. left_some c.args.rest (search rules) e
