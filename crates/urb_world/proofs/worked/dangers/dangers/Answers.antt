use Rattle.urb_world.proofs.Common.{Content, Entry, IsTrue, List, Some, [], ap, certified, false}
use Rattle.urb_world.proofs.Common.{has_pair, image_of, majority_passes, message, name, pend, refl}
use Rattle.urb_world.proofs.Common.{subst, sym, true, ℕ, ◌∷◌, ◌≡◌}
use Rattle.urb_world.specs.internal.Examples.{pending}
use Rattle.urb_world.proofs.worked.dangers.dangers.Goals as goal

pub returns-clause-delivered_by_too_few : goal.returns-clause-delivered_by_too_few
returns-clause-delivered_by_too_few c safe =
    let held = safe.uniform 1 (name 1 1) refl in
    let images : List (List Entry) = (certified 1 1 ∷ []) ∷ [] ∷ [] ∷ [] in
    let IsHeld : Content → Type 0 =
    λ m. IsTrue (majority_passes 3 (λ q. has_pair (pend (image_of images q)) (name 1 1) m)) in
    let found : Some (message 7 1 "") ≡ Some held.0 = held.1 in
    let same : message 7 1 "" ≡ held.0 = cc in
    let none : false ≡ true = subst IsHeld (sym same) held.2 in cc

pub returns-clause-delivered_by_half : goal.returns-clause-delivered_by_half
returns-clause-delivered_by_half c safe =
    let held = safe.uniform 1 (name 1 1) refl in
    let images : List (List Entry) = (certified 1 1 ∷ []) ∷ (pending 1 1 ∷ []) ∷ [] ∷ [] ∷ [] in
    let IsHeld : Content → Type 0 =
    λ m. IsTrue (majority_passes 4 (λ q. has_pair (pend (image_of images q)) (name 1 1) m)) in
    let found : Some (message 7 1 "") ≡ Some held.0 = held.1 in
    let same : message 7 1 "" ≡ held.0 = cc in
    let none : false ≡ true = subst IsHeld (sym same) held.2 in cc

pub returns-clause-delivered_by_three_of_six : goal.returns-clause-delivered_by_three_of_six
returns-clause-delivered_by_three_of_six c safe =
    let held = safe.uniform 1 (name 1 1) refl in
    let images : List (List Entry) = (certified 1 1 ∷ []) ∷ (pending 1 1 ∷ []) ∷ (pending 1 1 ∷ [])
    ∷ [] ∷ [] ∷ [] ∷ [] in
    let IsHeld : Content → Type 0 =
    λ m. IsTrue (majority_passes 6 (λ q. has_pair (pend (image_of images q)) (name 1 1) m)) in
    let found : Some (message 7 1 "") ≡ Some held.0 = held.1 in
    let same : message 7 1 "" ≡ held.0 = cc in
    let none : false ≡ true = subst IsHeld (sym same) held.2 in cc

pub returns-clause-delivered_by_three_of_seven : goal.returns-clause-delivered_by_three_of_seven
returns-clause-delivered_by_three_of_seven c safe =
    let held = safe.uniform 1 (name 1 1) refl in
    let images : List (List Entry) = (certified 1 1 ∷ []) ∷ (pending 1 1 ∷ []) ∷ (pending 1 1 ∷ [])
    ∷ [] ∷ [] ∷ [] ∷ [] ∷ [] in
    let IsHeld : Content → Type 0 =
    λ m. IsTrue (majority_passes 7 (λ q. has_pair (pend (image_of images q)) (name 1 1) m)) in
    let found : Some (message 7 1 "") ≡ Some held.0 = held.1 in
    let same : message 7 1 "" ≡ held.0 = cc in
    let none : false ≡ true = subst IsHeld (sym same) held.2 in cc

pub returns-clause-delivered_and_never_broadcast : goal.returns-clause-delivered_and_never_broadcast
returns-clause-delivered_and_never_broadcast c safe =
    let messages : Some (message 7 1 "") ∷ [] ≡ [] = (safe.in_order 2 1).messages in cc

pub returns-clause-two_messages_under_one_name : goal.returns-clause-two_messages_under_one_name
returns-clause-two_messages_under_one_name c one_message =
    let payload : Content → List ℕ = λ m. m.payload in
    let same : payload (message 7 1 "") ≡ payload (message 7 1 "a") =
    ap payload (one_message 1 2 (name 1 1) (message 7 1 "") (message 7 1 "a") refl refl) in cc
