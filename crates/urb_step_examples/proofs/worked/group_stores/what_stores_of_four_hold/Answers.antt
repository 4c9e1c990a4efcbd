-- A new node has no record.
use Rattle.std.proofs.Common.{List, [], refl, ◌∷◌, ◌≡◌}
use Rattle.urb_stable.specs.Entries.{Entry}
use Rattle.urb_stable.specs.MemoryStores.{empty_memory}
use Rattle.urb_world.specs.internal.Examples.{pending}
use Rattle.urb_step_examples.specs.internal.StoreExamples.{one_stored}
use Rattle.urb_step_examples.proofs.worked.group_stores.what_stores_of_four_hold.Goals as goal

-- the one record
one : List Entry
one = pending 1 1 ∷ []

pub returns-clause-no_store_more_than_its_node : goal.returns-clause-no_store_more_than_its_node
unfolding one
returns-clause-no_store_more_than_its_node c h =
    let e : one ≡ [] = h 0 one_stored refl tt one refl in cc

pub returns-clause-nothing_more_between_calls : goal.returns-clause-nothing_more_between_calls
unfolding one
returns-clause-nothing_more_between_calls c h =
    let left = h 0 one_stored refl tt in
    let e : one ≡ [] = left.may one (left.only one refl) in cc

pub returns-clause-nothing_more_inside_a_call : goal.returns-clause-nothing_more_inside_a_call
unfolding one
returns-clause-nothing_more_inside_a_call c h =
    let left = h 0 empty_memory one_stored refl refl tt tt in
    let e : one ≡ [] = left.may one (left.only one refl) in cc

pub returns-clause-none_with_more_than_its_node : goal.returns-clause-none_with_more_than_its_node
unfolding one
returns-clause-none_with_more_than_its_node c h =
    let e : one ≡ [] = (h 0 one_stored refl).contents tt one refl in cc

pub returns-clause-nothing_more_of_a_clean_store : goal.returns-clause-nothing_more_of_a_clean_store
unfolding one
returns-clause-nothing_more_of_a_clean_store c h =
    let left = h 0 one_stored refl tt in
    let e : one ≡ [] = left.may one (left.only one refl) in cc
