-- What a stop leaves of a new node: nothing, and no pair.
use Rattle.urb_turn.proofs.Common.{Event, LeavesAfter, List, None, [], four, holding, memory}
use Rattle.urb_turn.proofs.Common.{pending, refl, run, ◌++◌, ◌∷◌, ◌≡◌}
use Rattle.urb_turn.specs.KilledStores.{IsCutAt}
use Rattle.urb_turn.proofs.worked.node_stores.stores_of_killed_groups.Goals as goal

some-none : {A : Type 0} (x : A) (xs : List A) → x ∷ xs ≡ [] → ⊥
some-none x xs e = cc

not-left : (earlier between : List Event) → [] ≡ earlier ++ between
    → LeavesAfter memory four earlier 1 holding → ⊥
unfolding run
not-left [] between e leaves =
    some-none (pending 1 1) [] ((leaves tt).may (pending 1 1 ∷ [])
    ((leaves tt).only (pending 1 1 ∷ []) refl))
not-left (event ∷ events) between e leaves = cc

not-cut : IsCutAt memory four [] 1 holding → ⊥
not-cut h = not-left h.earlier h.rests.between h.rests.later_is h.leaves

pub returns-clause-an_empty_one : goal.returns-clause-an_empty_one
unfolding run
returns-clause-an_empty_one c = record {
  earlier = [];
  rests = record { between = []; later_is = refl; elsewhere = tt };
  leaves = λ clean. record {
    certain = [];
    doubtful = None;
    only = λ records is. is;
    may = λ records is. is;
  };
}

pub returns-clause-not_one_with_a_pair : goal.returns-clause-not_one_with_a_pair
returns-clause-not_one_with_a_pair c h = not-cut h

pub returns-clause-not_the_first_with_a_pair : goal.returns-clause-not_the_first_with_a_pair
returns-clause-not_the_first_with_a_pair c h = not-cut (h 0 holding refl)
