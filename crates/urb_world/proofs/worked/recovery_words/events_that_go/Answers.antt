-- No event delivers nothing.
use Rattle.urb_world.proofs.Common.{List, [], name, refl, run, ◌∷◌, ◌≡◌}
use Rattle.urb_world.proofs.worked.recovery_words.events_that_go.Goals as goal

none-some : {A : Type 0} (x : A) (xs : List A) → [] ≡ x ∷ xs → ⊥
none-some x xs e = cc

pub returns-clause-not_delivered : goal.returns-clause-not_delivered
unfolding run
returns-clause-not_delivered c has =
    none-some (name 1 1) [] ((has.delivered 1 refl).names 1 refl)
