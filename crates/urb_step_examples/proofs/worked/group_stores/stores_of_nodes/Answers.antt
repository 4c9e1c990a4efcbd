-- What is in doubt at a node that is down.
use Rattle.std.proofs.Common.{Some, []}
use Rattle.std.proofs.lemmas.Bool.{true≢false}
use Rattle.urb_world.specs.internal.Examples.{pending}
use Rattle.urb_step_examples.proofs.worked.group_stores.stores_of_nodes.Goals as goal

pub returns-clause-of_a_node_that_is_down : goal.returns-clause-of_a_node_that_is_down
returns-clause-of_a_node_that_is_down c =
    record {
      contents = λ honest records contents. contents;
      left =
          λ honest. record {
            certain = [];
            doubtful = Some (pending 1 1);
            only = λ records contents. contents;
            may = λ records contents. contents;
          };
      up = λ honest up. absurd (true≢false up);
      sure = λ up. absurd (true≢false up);
    }
