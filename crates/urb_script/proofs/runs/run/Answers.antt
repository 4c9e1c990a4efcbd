use Rattle.urb_script.proofs.LogLaws.{logs_agree, logs_are_safe, stays_safe}
use Rattle.urb_script.proofs.Outcomes.{one_outcome}
use Rattle.urb_script.proofs.runs.run.Goals as goal

pub returns-clause-safe : goal.returns-clause-safe
returns-clause-safe g c = stays_safe

pub returns-clause-shown : goal.returns-clause-shown
returns-clause-shown g c = logs_are_safe

pub returns-clause-agree : goal.returns-clause-agree
returns-clause-agree g c = logs_agree

pub returns-clause-one : goal.returns-clause-one
returns-clause-one g c = one_outcome
