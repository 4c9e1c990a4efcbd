-- The conclusions are false of small worlds and lists.
use Rattle.urb_world.proofs.Common.{Content, IsHeldAmong, Label, List, None, Option, Some, World}
use Rattle.urb_world.proofs.Common.{[], ap, arith, certified, image_of, is_node, is_some, limits}
use Rattle.urb_world.proofs.Common.{message, message_of, name, opened, pend, refl, subst, true, ℕ}
use Rattle.urb_world.proofs.Common.{⊎_elim, ◌∷◌, ◌≡◌, ◌≤◌}
use Rattle.urb_world.specs.World.{stored}
use Rattle.urb_world.specs.internal.Examples.{flagged, pending}
use Rattle.urb_world.proofs.worked.premises.what_laws_conclude.Goals as goal

-- node 1 of two has stored a message, which nobody has delivered
abbrev w : World
w = opened (limits 2 10) (image_of ((pending 1 1 ∷ []) ∷ [] ∷ []))

-- an empty list is no other
none-some : {A : Type 0} (x : A) (xs : List A) → [] ≡ x ∷ xs → ⊥
none-some x xs e = cc

some-none : {A : Type 0} (x : A) (xs : List A) → x ∷ xs ≡ [] → ⊥
some-none x xs e = cc

-- the payload of the first message
abbrev payload : List (Option Content) → List ℕ
payload (Some m ∷ ms) = m.payload
payload (None ∷ ms) = []
payload [] = []

-- the payload of the first entry
abbrev entry_payload : List (Label × Option Content) → List ℕ
entry_payload (entry ∷ entries) = payload (entry.1 ∷ [])
entry_payload [] = []

pub returns-clause-all_delivered : goal.returns-clause-all_delivered
returns-clause-all_delivered c h = none-some (name 1 1) [] ((h 2 refl).names 1 refl)

pub returns-clause-have_delivered_held : goal.returns-clause-have_delivered_held
returns-clause-have_delivered_held c h =
    let begins = h 2 refl 1 1 held in some-none (name 1 1) begins.0 begins.1
  where
    held : (i : ℕ) → 1 ≤ i → i ≤ 1 → IsHeldAmong (is_node 2) w (name 1 i)
    held i low high =
        let one : 1 ≡ i = omega (arith, low, high) in (
          1,
          refl,
          subst (λ (k : ℕ). is_some (message_of (pend (stored w 1)) (name 1 k)) ≡ true) one
              refl,
        )

pub returns-clause-ready_have_delivered : goal.returns-clause-ready_have_delivered
returns-clause-ready_have_delivered c h =
    let begins = (h 1 refl refl).names 1 refl in some-none (name 1 1) begins.0 begins.1

pub returns-clause-ready_have_delivered_this : goal.returns-clause-ready_have_delivered_this
returns-clause-ready_have_delivered_this c h =
    let begins = (h 1 refl refl).messages 1 refl in none-some 97 [] (ap payload begins.1)

pub returns-clause-none_due : goal.returns-clause-none_due
returns-clause-none_due c h = some-none (name 1 1, message 7 1 "") [] (h 1 refl)

pub returns-clause-ticks_are_silent : goal.returns-clause-ticks_are_silent
returns-clause-ticks_are_silent c h = some-none (flagged 0 1 2 1 1 (message 7 1 "")) [] h.0

pub returns-clause-an_answer_that_came_before : goal.returns-clause-an_answer_that_came_before
returns-clause-an_answer_that_came_before c h = h.1.0.0

pub returns-clause-agree_in_time : goal.returns-clause-agree_in_time
returns-clause-agree_in_time c h =
    ⊎_elim (λ begins. none-some 97 [] (ap entry_payload begins.1))
    (λ begins. some-none 97 [] (ap entry_payload begins.1)) (h 1 1 1)

pub returns-clause-entries_grow : goal.returns-clause-entries_grow
returns-clause-entries_grow c h = none-some 97 [] (ap entry_payload (h 1).1)

pub returns-clause-is_in_order : goal.returns-clause-is_in_order
returns-clause-is_in_order c h = some-none 97 [] (ap payload h.messages)

pub returns-clause-goes_on : goal.returns-clause-goes_on
returns-clause-goes_on c h =
    let begins = h.records 1 in some-none (certified 1 1) begins.0 begins.1
