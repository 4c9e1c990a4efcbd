-- The first message of a node releases no name.
use Rattle.std.proofs.Common.{arith}
use Rattle.std.proofs.lemmas.Grind.{common_steps}
use Rattle.urb_step_examples.specs.internal.NodeExamples.{storing_first}
use Rattle.urb_step_examples.proofs.worked.node_calls.what_a_receipt_confirms.Goals as goal

pub returns-clause-not_another_effect : goal.returns-clause-not_another_effect
returns-clause-not_another_effect c shows h =
    let told = (h.2 storing_first shows).0 in grind (arith, common_steps, told)
