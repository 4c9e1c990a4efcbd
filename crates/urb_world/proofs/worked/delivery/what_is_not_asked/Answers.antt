-- Other nodes, nodes that are down, and names that nobody holds do nothing.
use Rattle.urb_world.proofs.Common.{Begins, Bool, Content, IsHeldAmong, List, Ready, Some, []}
use Rattle.urb_world.proofs.Common.{and_parts, arith, false≢true, if◌then◌else◌, is_node, length}
use Rattle.urb_world.proofs.Common.{ltb-true, map, message, name, names, nat_lt, node_in, refl}
use Rattle.urb_world.proofs.Common.{started, subst, suc, sym, zero, ℕ, ◌∷◌, ◌≡◌, ◌≤◌}
use Rattle.urb_world.specs.Rounds.{Ticks, ticks_of}
use Rattle.urb_world.proofs.worked.delivery.what_is_not_asked.Goals as goal

-- a node of the group has broadcast nothing, and another one has
abbrev broadcast_if : Bool → List Content
broadcast_if is =
    (if is then node_in Ready [] else
    record (node_in Ready []) { broadcast = message 7 1 "" ∷ [] }).broadcast

pub returns-clause-of_other_senders : goal.returns-clause-of_other_senders
returns-clause-of_other_senders c = record {
  names = λ s is. subst (λ (b : Bool). Begins (names s (length (broadcast_if b))) []) (sym is)
      ([], refl);
  messages = λ s is. subst (λ (b : Bool). Begins (map Some (broadcast_if b)) []) (sym is) ([], refl);
}

pub returns-clause-of_other_nodes_ticks : goal.returns-clause-of_other_nodes_ticks
returns-clause-of_other_nodes_ticks c p is =
    let parts = and_parts (nat_lt 0 p) (nat_lt p 2) is in
    let low = ltb-true 0 p parts.0 in
    let high = ltb-true p 2 parts.1 in
    let one : 1 ≡ p = omega (arith, low, high) in
    let once : 1 ≤ 1 = omega arith in
    subst (λ (k : ℕ). 1 ≤ ticks_of k (Ticks 1 [] ∷ [])) one once

pub returns-clause-of_names_that_nobody_holds : goal.returns-clause-of_names_that_nobody_holds
returns-clause-of_names_that_nobody_holds c size q among s count held = begins count held
  where
    begins : (k : ℕ)
        → ((i : ℕ) → 1 ≤ i → i ≤ k → IsHeldAmong (is_node size.n) (started size) (name s i))
        → Begins (names s k) []
    begins zero h = ([], refl)
    begins (suc k) h =
        let first = h 1 (omega arith) (omega arith) in absurd (false≢true first.2)
