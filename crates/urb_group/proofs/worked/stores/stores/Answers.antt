use Rattle.urb_group.proofs.Common.{Entry, List, Some, [], after_failure, empty_memory, false≢true}
use Rattle.urb_group.proofs.Common.{inr, refl, ⊎_elim, ◌∷◌, ◌≡◌}
use Rattle.std.proofs.lemmas.Bool.{true≢false}
use Rattle.urb_world.specs.internal.Examples.{pending}
use Rattle.urb_group.proofs.worked.stores.stores.Goals as goal

-- the one record, and none
one : List Entry
one = pending 1 1 ∷ []

pub returns-clause-shut_inside_a_call : goal.returns-clause-shut_inside_a_call
returns-clause-shut_inside_a_call c leaves =
    leaves 0 empty_memory (after_failure (Some (pending 1 1)) empty_memory) refl refl refl tt

pub returns-clause-a_record_that_the_node_lacks : goal.returns-clause-a_record_that_the_node_lacks
unfolding one
returns-clause-a_record_that_the_node_lacks c left =
    let lost : one ≡ [] = left.may one (left.only one refl) in cc

pub returns-clause-no_record_where_the_node_has_one :
    goal.returns-clause-no_record_where_the_node_has_one
unfolding one
returns-clause-no_record_where_the_node_has_one c left =
    let lost : [] ≡ one = left.may [] (left.only [] refl) in cc

pub returns-clause-shut_and_its_node_down : goal.returns-clause-shut_and_its_node_down
returns-clause-shut_and_its_node_down c =
    record {
      left =
          λ clean. record {
            certain = [];
            doubtful = Some (pending 1 1);
            only =
                λ records contents. contents;
            may = λ records contents. contents;
          };
      known = λ clean. inr (refl, refl);
    }

pub returns-clause-shut_while_its_node_is_up : goal.returns-clause-shut_while_its_node_is_up
returns-clause-shut_while_its_node_is_up c h =
    ⊎_elim (λ honest. true≢false honest) (λ shut. false≢true shut.1) (h.known tt)
