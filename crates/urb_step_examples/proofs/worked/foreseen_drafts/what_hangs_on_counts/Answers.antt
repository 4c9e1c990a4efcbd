-- Two nodes are more than half of one. A certificate may not follow nothing.
use Rattle.std.proofs.Common.{sym, ◌≡◌}
use Rattle.std.proofs.lemmas.Bool.{false≢true}
use Rattle.urb_foresight.specs.internal.ForesightExamples.{four_nodes}
use Rattle.urb_world.specs.World.{started}
use Rattle.urb_world.specs.internal.Examples.{limits}
use Rattle.urb_step_examples.proofs.worked.foreseen_drafts.what_hangs_on_counts.Goals as goal

pub returns-clause-nothing_at_a_lone_node : goal.returns-clause-nothing_at_a_lone_node
returns-clause-nothing_at_a_lone_node c shows h =
    false≢true (sym (h (started (limits 1 10)) shows).0)

pub returns-clause-no_name_that_the_node_lacks : goal.returns-clause-no_name_that_the_node_lacks
returns-clause-no_name_that_the_node_lacks c shows h = false≢true (h four_nodes shows).1.0.a
