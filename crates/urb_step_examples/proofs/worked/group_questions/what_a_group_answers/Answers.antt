-- A new node has stored, delivered and broadcast nothing.
use Rattle.std.proofs.Common.{List, [], arith, length, true, ◌∷◌, ◌≡◌}
use Rattle.std.specs.Prelude.{IsTrue}
use Rattle.std.proofs.lemmas.Bool.{false≢true}
use Rattle.std.proofs.lemmas.Grind.{common_steps}
use Rattle.urb_names.specs.Names.{name}
use Rattle.urb_stable.specs.DeliveredLogs.{log}
use Rattle.urb_stable.specs.Entries.{Entry}
use Rattle.urb_group.specs.GroupViews.{Shows}
use Rattle.urb_step_examples.specs.internal.GroupExamples.{of_no_world}
use Rattle.urb_world.specs.World.{World, started}
use Rattle.urb_world.specs.internal.Examples.{limits}
use Rattle.urb_step_examples.proofs.worked.group_questions.what_a_group_answers.Goals as goal

pub returns-clause-another_number_of_nodes : goal.returns-clause-another_number_of_nodes
returns-clause-another_number_of_nodes c shows h =
    let told = h (started (limits 4 10)) shows in grind (arith, common_steps, told)

pub returns-clause-a_log_of_a_new_node : goal.returns-clause-a_log_of_a_new_node
returns-clause-a_log_of_a_new_node c shows h = let told = h (started (limits 4 10)) shows in cc

pub returns-clause-a_message_of_a_new_node : goal.returns-clause-a_message_of_a_new_node
returns-clause-a_message_of_a_new_node c shows h = let told = h (started (limits 4 10)) shows in cc

pub returns-clause-a_count_of_a_new_node : goal.returns-clause-a_count_of_a_new_node
returns-clause-a_count_of_a_new_node c shows h = let told = h (started (limits 4 10)) shows in cc

pub returns-clause-a_new_node_holds_nothing : goal.returns-clause-a_new_node_holds_nothing
returns-clause-a_new_node_holds_nothing c shows h = let told = h (started (limits 4 10)) shows in cc

pub returns-clause-something_may_follow_at_no_node :
    goal.returns-clause-something_may_follow_at_no_node
returns-clause-something_may_follow_at_no_node c shows h =
    let yes : IsTrue true = search in false≢true ((h (started (limits 4 10)) shows).0 yes).0

-- no node has delivered a name and stored no record
none : (records : List Entry) → 0 ≡ length records → name 1 1 ∷ [] ≡ log records → ⊥
none [] count delivered = absurd (cc)
none (r ∷ rs) count delivered = absurd (cc)

no-world : (w : World) → Shows (of_no_world 4) w → ⊥
no-world w shows = none (w.node 1).records (shows.nodes 1).count (shows.nodes 1).log

pub returns-clause-how_many_nodes : goal.returns-clause-how_many_nodes
returns-clause-how_many_nodes c w shows = absurd (no-world w shows)

pub returns-clause-anything_in_no_world : goal.returns-clause-anything_in_no_world
returns-clause-anything_in_no_world c w shows = absurd (no-world w shows)
