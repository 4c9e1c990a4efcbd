-- A store never has a payload over the limit ahead.
use Rattle.urb_ahead_examples.proofs.Common.{AreShort, Content, Entry, List, Node, Pend, [], ap}
use Rattle.urb_ahead_examples.proofs.Common.{arith, filled, has_pair-head, length, limits, name}
use Rattle.urb_ahead_examples.proofs.Common.{opened_node, pend, refl, replicate, started, subst}
use Rattle.urb_ahead_examples.proofs.Common.{suc, sym, zero, ℕ, ◌∷◌, ◌≡◌, ◌≤◌}
use Rattle.urb_world.specs.StoresAhead.{StandsFor}
use Rattle.urb_ahead_examples.proofs.worked.worlds_as_stored.nodes_unlike_their_stores.Goals as goal

count-replicated : (count : ℕ) (byte : ℕ) → length (replicate count byte) ≡ count
count-replicated zero byte = refl
count-replicated (suc count) byte = ap suc (count-replicated count byte)

-- the message of a record that a store has ahead isn't too long
short-ahead : (n : ℕ) (m : Content)
    → StandsFor (started (limits n 10)) 1 (opened_node 1 (Pend (name 1 1) m ∷ []))
    → length m.payload ≤ 16384
short-ahead n m s =
    let same : Pend (name 1 1) m ∷ [] ≡ s.tail = ap (λ (node : Node). node.records) s.opened in
    let short : AreShort (pend (Pend (name 1 1) m ∷ [])) =
    subst (λ (rs : List Entry). AreShort (pend rs)) (sym same) s.short in
    short (name 1 1) m (has_pair-head (name 1 1, m) [])

too-long : (n : ℕ)
    → StandsFor (started (limits n 10)) 1
    (opened_node 1 (Pend (name 1 1) (filled 7 1 16385) ∷ [])) → ⊥
too-long n s =
    let short : 16385 ≤ 16384 =
    subst (λ (count : ℕ). count ≤ 16384) (count-replicated 16385 120)
    (short-ahead n (filled 7 1 16385) s) in
    absurd (omega (arith, short))

pub returns-clause-a_long_payload : goal.returns-clause-a_long_payload
returns-clause-a_long_payload c s = too-long 3 s

pub returns-clause-a_long_payload_of_four : goal.returns-clause-a_long_payload_of_four
returns-clause-a_long_payload_of_four c s = too-long 4 s
