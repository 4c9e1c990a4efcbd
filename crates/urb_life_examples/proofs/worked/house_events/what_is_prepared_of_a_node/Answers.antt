-- The entry of node 1 is prepared at its own place alone.
use Rattle.std.proofs.Common.{List, [], arith, ◌∷◌, ◌≡◌}
use Rattle.urb_show.specs.internal.Examples.{told}
use Rattle.urb_life_examples.proofs.worked.house_events.what_is_prepared_of_a_node.Goals as goal

some-none : {A : Type 0} (x : A) (xs : List A) → x ∷ xs ≡ [] → ⊥
some-none x xs e = cc

pub returns-clause-not_the_entry_of_another : goal.returns-clause-not_the_entry_of_another
returns-clause-not_the_entry_of_another c h =
    some-none (told 1 1 "a") [] (h.others 0 (λ e. let no : 1 ≡ 0 = e in omega (arith, no)))
