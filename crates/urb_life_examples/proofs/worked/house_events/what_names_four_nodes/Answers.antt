-- What names an opening of four nodes, and what doesn't.
use Rattle.std.proofs.Common.{List, [], ap, refl, ◌∷◌, ◌≡◌}
use Rattle.urb_show.specs.Lists.{Lists, list_at}
use Rattle.urb_show.specs.internal.Examples.{told}
use Rattle.urb_life_examples.proofs.worked.house_events.what_names_four_nodes.Goals as goal

some-none : {A : Type 0} (x : A) (xs : List A) → x ∷ xs ≡ [] → ⊥
some-none x xs e = cc

pub returns-clause-as_opened : goal.returns-clause-as_opened
returns-clause-as_opened c additions events =
    record { book = refl; history = refl; base = refl; origin = refl }

pub returns-clause-not_with_other_lists : goal.returns-clause-not_with_other_lists
returns-clause-not_with_other_lists c additions events h =
    some-none (told 1 1 "a") [] (ap (λ (lists : Lists). list_at lists 0) h.base)
