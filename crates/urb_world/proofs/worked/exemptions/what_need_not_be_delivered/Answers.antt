-- Only the nodes of the group deliver, and only their messages are delivered.
use Rattle.urb_world.proofs.Common.{Begins, Bool, Content, Down, IsHeldAmong, Label, List, Node}
use Rattle.urb_world.proofs.Common.{None, Ready, Some, World, [], ap, arith, certified, eqb-true}
use Rattle.urb_world.proofs.Common.{false≢true, if◌then◌else◌, image_of, is_node, is_some, length}
use Rattle.urb_world.proofs.Common.{limits, log, map, message, message_of, name, names, ne_eqb}
use Rattle.urb_world.proofs.Common.{node_in, opened, part_of, pend, refl, subst, suc, sym, true}
use Rattle.urb_world.proofs.Common.{zero, ℕ, ◌&&◌, ◌==◌, ◌∷◌, ◌≡◌, ◌≤◌}
use Rattle.urb_world.proofs.worked.exemptions.what_need_not_be_delivered.Goals as goal

-- a node of the group, and another one, which is down
abbrev node_if : Bool → Node
node_if is = if is then node_in Ready [] else node_in (Down None) []

pub returns-clause-by_an_eighth_node : goal.returns-clause-by_an_eighth_node
returns-clause-by_an_eighth_node c p is = record {
  ready = subst (λ (b : Bool). (node_if b).state ≡ Ready) (sym is) refl;
  names = λ s of. subst
      (λ (b : Bool). part_of s (log (node_if b).records)
      ≡ names s (length (node_if (is_node 7 s)).broadcast)) (sym is)
      (subst (λ (b : Bool). [] ≡ names s (length (node_if b).broadcast)) (sym of) refl);
  messages = λ s of. subst
      (λ (b : Bool). map (message_of (pend (node_if b).records)) (part_of s (log (node_if b).records))
      ≡ map Some (node_if (is_node 7 s)).broadcast) (sym is)
      (subst (λ (b : Bool). [] ≡ map Some (node_if b).broadcast) (sym of) refl);
}

-- a node of the group has broadcast nothing, and another one has
abbrev broadcast_if : Bool → List Content
broadcast_if is =
    (if is then node_in Ready [] else
    record (node_in Ready []) { broadcast = message 7 1 "" ∷ [] }).broadcast

pub returns-clause-of_an_eighth_node : goal.returns-clause-of_an_eighth_node
returns-clause-of_an_eighth_node c = record {
  ready = refl;
  names = λ s is. subst (λ (b : Bool). [] ≡ names s (length (broadcast_if b))) (sym is) refl;
  messages = λ s is. subst (λ (b : Bool). [] ≡ map Some (broadcast_if b)) (sym is) refl;
}

-- node 1 of seven has certified and delivered its message
abbrev one_has : World
one_has = opened (limits 7 10) (image_of ((certified 1 1 ∷ []) ∷ []))

-- what node 1 holds under a name, if it holds one
held_by_one : (x : Label) → IsHeldAmong (λ p. p == 1) one_has x
    → is_some (message_of ((name 1 1, message 7 1 "") ∷ []) x) ≡ true
held_by_one x held =
    subst (λ (p : ℕ). is_some (message_of (pend (one_has.node p).records) x) ≡ true)
    (eqb-true held.0 1 held.1) held.2

delivered_by_one : (s count : ℕ)
    → ((i : ℕ) → 1 ≤ i → i ≤ count → IsHeldAmong (λ p. p == 1) one_has (name s i))
    → Begins (names s count) (part_of s (name 1 1 ∷ []))
delivered_by_one s zero held = (_, refl)
delivered_by_one zero (suc count) held =
    absurd (false≢true (held_by_one (name 0 1) (held 1 (omega arith) (omega arith))))
delivered_by_one (suc zero) (suc zero) held = ([], refl)
delivered_by_one (suc zero) (suc (suc count)) held =
    absurd (false≢true (held_by_one (name 1 2) (held 2 (omega arith) (omega arith))))
delivered_by_one (suc (suc s)) (suc count) held =
    let one = held_by_one (name (suc (suc s)) 1) (held 1 (omega arith) (omega arith)) in
    absurd (false≢true (subst
    (λ (b : Bool). is_some (if b && (1 == 1) then Some (message 7 1 "") else None) ≡ true)
    (ne_eqb 1 (suc (suc s)) (λ e. omega (arith, e))) one))

pub returns-clause-by_another_node : goal.returns-clause-by_another_node
returns-clause-by_another_node c q among s count held =
    subst (λ (p : ℕ). Begins (names s count) (part_of s (log (one_has.node p).records)))
    (sym (eqb-true q 1 among)) (delivered_by_one s count held)
