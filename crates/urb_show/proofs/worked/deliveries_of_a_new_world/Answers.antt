use Rattle.urb_show.proofs.Common.{HaveDelivered, Limits, [], refl, started, suc, zero, ◌∷◌}
use Rattle.urb_show.proofs.worked.deliveries_of_a_new_world.Goals as goal

none : (size : Limits) → HaveDelivered (started size) ([] ∷ [] ∷ [])
none size zero = ([], refl)
none size (suc zero) = ([], refl)
none size (suc (suc place)) = ([], refl)

pub returns-clause-nothing : goal.returns-clause-nothing
returns-clause-nothing c size = none size

pub returns-clause-something : goal.returns-clause-something
returns-clause-something c size h = (let e = (h 1).1 in absurd (cc (e)))
