-- Lists that disagree, or of which neither begins the other.
use Rattle.urb_show.proofs.Common.{List, Lists, [], told, ⊎_elim, ◌∷◌, ◌≡◌}
use Rattle.urb_show.specs.Lists.{Begins}
use Rattle.urb_show.proofs.worked.readers.what_one_history_has.Goals as goal

some-none : {A : Type 0} (x : A) (xs : List A) → x ∷ xs ≡ [] → ⊥
some-none x xs e = cc

-- an entry that is lost at the first node
lost : (xs ys : Lists) → Begins ((told 1 1 "a" ∷ []) ∷ xs) ([] ∷ ys) → ⊥
lost xs ys (first, rest) = some-none (told 1 1 "a") _ first.1

lost_second : Begins ([] ∷ (told 1 1 "a" ∷ []) ∷ []) ((told 1 1 "a" ∷ []) ∷ [] ∷ []) → ⊥
lost_second (first, (second, rest)) = some-none (told 1 1 "a") _ second.1

pub returns-clause-first_lists_that_disagree : goal.returns-clause-first_lists_that_disagree
returns-clause-first_lists_that_disagree c history = let e = history.these_agree.numbers 0 1 in cc

pub returns-clause-second_lists_that_disagree : goal.returns-clause-second_lists_that_disagree
returns-clause-second_lists_that_disagree c history = let e = history.those_agree.numbers 0 1 in cc

pub returns-clause-each_is_ahead_at_a_node : goal.returns-clause-each_is_ahead_at_a_node
returns-clause-each_is_ahead_at_a_node c history =
    ⊎_elim (lost ([] ∷ []) ((told 1 1 "a" ∷ []) ∷ []))
    lost_second history.one_begins
