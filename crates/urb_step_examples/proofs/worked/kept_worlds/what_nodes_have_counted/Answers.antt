-- Who is counted for a name that is not certified.
use Rattle.std.proofs.Common.{Bool, false, refl, true, ◌≡◌}
use Rattle.urb_names.specs.Names.{name}
use Rattle.urb_world.specs.internal.Examples.{certified}
use Rattle.std.specs.Prelude.{◌&&◌, ◌||◌}
use Rattle.urb_step_examples.proofs.worked.kept_worlds.what_nodes_have_counted.Goals as goal

-- a name that is certified and counted is no name that is counted and not certified
no-one : (same other : Bool) → (same || false) ≡ false → ((same && other) || false) ≡ true → ⊥
no-one true other none counted = absurd (cc)
no-one false other none counted = absurd (cc)

pub returns-clause-of_a_certified_name : goal.returns-clause-of_a_certified_name
returns-clause-of_a_certified_name c x q none counted = absurd (no-one _ _ none counted)

pub returns-clause-not_of_a_name_that_it_lacks : goal.returns-clause-not_of_a_name_that_it_lacks
returns-clause-not_of_a_name_that_it_lacks c h = let e = (h (name 1 1) 2 refl refl).1 in absurd (cc)

pub returns-clause-not_a_node_that_lacks_the_name :
    goal.returns-clause-not_a_node_that_lacks_the_name
returns-clause-not_a_node_that_lacks_the_name c h =
    let e = (h (name 1 1) 2 refl refl).2 in absurd (cc)
