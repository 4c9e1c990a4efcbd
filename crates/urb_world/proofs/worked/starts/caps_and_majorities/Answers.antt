-- Images that fit together are within their cap and have their majorities.
use Rattle.urb_world.proofs.Common.{[], arith, certified, false≢true, held_by_three, image_of}
use Rattle.urb_world.proofs.Common.{limits, message, name, refl, suc, two_of_one, zero, ◌∷◌}
use Rattle.urb_world.proofs.steps.Runs.{fitting-kept}
use Rattle.urb_world.proofs.stops.LimitChanges.{have-majorities, own-within}
use Rattle.urb_world.specs.internal.Examples.{pending}
use Rattle.urb_world.proofs.worked.starts.caps_and_majorities.Goals as goal

pub returns-clause-as_many_as_the_cap : goal.returns-clause-as_many_as_the_cap
returns-clause-as_many_as_the_cap c =
    own-within (limits 1 2) (image_of (two_of_one ∷ []))
    (fitting-kept (limits 1 2) (two_of_one ∷ []) refl refl)

pub returns-clause-more_than_the_cap : goal.returns-clause-more_than_the_cap
returns-clause-more_than_the_cap c within = let two = within 1 in omega (arith, two)

pub returns-clause-only_own_messages_count : goal.returns-clause-only_own_messages_count
returns-clause-only_own_messages_count c =
    own-within (limits 2 1) _ (fitting-kept (limits 2 1)
    ((certified 1 1 ∷ []) ∷ (pending 1 1 ∷ pending 2 1 ∷ []) ∷ []) refl refl)

pub returns-clause-more_than_half : goal.returns-clause-more_than_half
returns-clause-more_than_half c =
    have-majorities (limits 5 10) _
    (fitting-kept (limits 5 10) (held_by_three ([] ∷ [] ∷ [])) refl refl)

pub returns-clause-half : goal.returns-clause-half
returns-clause-half c held = false≢true (held 1 (name 1 1) (message 7 1 "") refl refl)

pub returns-clause-no_certificate : goal.returns-clause-no_certificate
returns-clause-no_certificate c =
    have-majorities (limits 7 10) _ (fitting-kept (limits 7 10)
    ((pending 1 1 ∷ []) ∷ [] ∷ [] ∷ [] ∷ [] ∷ [] ∷ [] ∷ []) refl refl)

pub returns-clause-no_further_node : goal.returns-clause-no_further_node
returns-clause-no_further_node c zero e = refl
returns-clause-no_further_node c (suc zero) e = cc
returns-clause-no_further_node c (suc (suc p)) e = refl

pub returns-clause-a_further_node : goal.returns-clause-a_further_node
returns-clause-a_further_node c h = let e = h 2 refl in cc
