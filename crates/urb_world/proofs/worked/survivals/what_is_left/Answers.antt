-- When a group may not start with other limits, and which node is stranded.
use Rattle.urb_world.proofs.Common.{[], arith, false≢true, filled, held_by_three, image_of, message}
use Rattle.urb_world.proofs.Common.{name, refl, two_of_one, ⊎_elim, ◌∷◌}
use Rattle.urb_world.proofs.worked.survivals.what_is_left.Goals as goal

pub returns-clause-a_smaller_cap : goal.returns-clause-a_smaller_cap
returns-clause-a_smaller_cap c may =
    ⊎_elim (λ more. absurd (omega (arith, more)))
    (λ always. absurd (let two = always (image_of (two_of_one ∷ [])) (λ p. refl) 1 in
    omega (arith, two))) may.cap

pub returns-clause-too_many_nodes : goal.returns-clause-too_many_nodes
returns-clause-too_many_nodes c may =
    ⊎_elim (λ same. absurd (omega (arith, same)))
    (λ always. absurd (false≢true (always (image_of (held_by_three [])) (λ p. refl) 1 (name 1 1)
    (message 7 1 "") refl refl))) may.majorities

pub returns-clause-a_long_message_of_too_few : goal.returns-clause-a_long_message_of_too_few
returns-clause-a_long_message_of_too_few c have =
    false≢true (have 1 (name 1 1) (filled 7 1 1001) refl refl)

pub returns-clause-a_stranded_node : goal.returns-clause-a_stranded_node
returns-clause-a_stranded_node c none =
    false≢true (none refl (name 1 1) (message 7 1 "") refl)
