use Rattle.urb_node.proofs.FinalAnswers.{answers-end, first_version-silent, heard-silent}
use Rattle.urb_node.proofs.laws.answers_end.Goals as goal

pub returns-clause-heard : goal.returns-clause-heard
returns-clause-heard c = heard-silent

pub returns-clause-first_version : goal.returns-clause-first_version
returns-clause-first_version c = first_version-silent

pub returns-clause-ends : goal.returns-clause-ends
returns-clause-ends c = answers-end
