-- A node has not delivered what was held, or sends at a tick.
use Rattle.urb_world.proofs.Common.{IsHeldAmong, List, World, [], arith, image_of, is_node, is_some}
use Rattle.urb_world.proofs.Common.{limits, message_of, name, opened, pend, refl, subst, true, ℕ}
use Rattle.urb_world.proofs.Common.{◌∷◌, ◌≡◌, ◌≤◌}
use Rattle.urb_world.specs.World.{stored}
use Rattle.urb_world.specs.internal.Examples.{pending}
use Rattle.urb_world.proofs.worked.delivery.what_is_asked.Goals as goal

-- node 1 of seven has stored a message, which nobody has delivered
abbrev w : World
w = opened (limits 7 10) (image_of ((pending 1 1 ∷ []) ∷ []))

some-none : {A : Type 0} (x : A) (xs : List A) → x ∷ xs ≡ [] → ⊥
some-none x xs e = cc

pub returns-clause-of_seven : goal.returns-clause-of_seven
returns-clause-of_seven c h =
    let begins = h 2 refl 1 1 held in some-none (name 1 1) begins.0 begins.1
  where
    held : (i : ℕ) → 1 ≤ i → i ≤ 1 → IsHeldAmong (is_node 7) w (name 1 i)
    held i low high =
        let one : 1 ≡ i = omega (arith, low, high) in (
          1,
          refl,
          subst (λ (k : ℕ). is_some (message_of (pend (stored w 1)) (name 1 k)) ≡ true) one
              refl,
        )
