-- Lists of nodes, packets that go to nodes, and the senders of names that are known.
use Rattle.urb_world.proofs.Common.{AllByRecursion, Bool, Carried, Content, Flags, Label, List}
use Rattle.urb_world.proofs.Common.{Node, Some, World, [], acked, all_append, and_from, and_parts}
use Rattle.urb_world.proofs.Common.{ap, arith, cases_eq, cert, cond_both, false, false≢true, filter}
use Rattle.urb_world.proofs.Common.{flat_map, has_name, in_range, inl, inr, is_node, kept-range}
use Rattle.urb_world.proofs.Common.{lt-ltb, ltb-true, nat_lt, nodes, not, numbers_from, others}
use Rattle.urb_world.proofs.Common.{packets_to, refl, suc, sym, to_unheard, true, zero, ℕ, ⊎_elim}
use Rattle.urb_world.proofs.Common.{◌+◌, ◌<◌, ◌==◌, ◌∙◌, ◌∷◌, ◌≡◌, ◌≤◌}
use Rattle.urb_world.proofs.recovery.ContinuedWorlds.{Sound, known-pair, known-sender}
use Rattle.urb_world.proofs.recovery.CountedArrivals.{knows}
use Rattle.urb_world.proofs.ticks.Membership.{IsIn, in-filter, in-flat_map, in-map}
use Rattle.urb_world.proofs.recovery.TickPackets.{resent_packets}
use Rattle.urb_world.specs.World.{stored}

-- ---- nodes

-- each number of a range is in the list of the range's numbers
pub in-numbers : (first count q : ℕ) → first ≤ q → q < first + count
    → IsIn q (numbers_from first count)
in-numbers first zero q l u = absurd (omega arith)
in-numbers first (suc count) q l u =
    ⊎_elim (λ e. inl e) (λ h. inr (in-numbers (suc first) count q (omega arith) (omega arith)))
    (cases_eq first q)

numbers-in : (first count q : ℕ) → IsIn q (numbers_from first count)
    → (first ≤ q) × (q < first + count)
numbers-in first zero q h = absurd h
numbers-in first (suc count) q h =
    ⊎_elim (λ e. (omega (arith, e), omega (arith, e)))
    (λ k. let l = numbers-in (suc first) count q k in (omega (arith, l.0), omega (arith, l.1)))
    h

-- each node of the group is in the list of nodes
pub in-nodes : (n q : ℕ) → is_node n q ≡ true → IsIn q (nodes n)
in-nodes n q h =
    let parts = and_parts (nat_lt 0 q) (nat_lt q (suc n)) h in
    in-numbers 1 n q (ltb-true 0 q parts.0) (let l = ltb-true q (suc n) parts.1 in omega (arith, l))

-- each number in the list of nodes is a node of the group
pub nodes-in : (n q : ℕ) → IsIn q (nodes n) → is_node n q ≡ true
nodes-in n q h =
    let l = numbers-in 1 n q h in
    and_from (nat_lt 0 q) _ (lt-ltb 0 q l.0) (lt-ltb q (suc n) (omega (arith, l.1)))

-- each node other than p is in the list of the others
pub in-others : (n p q : ℕ) → is_node n q ≡ true → (q == p) ≡ false → IsIn q (others n p)
in-others n p q is other =
    in-filter (λ i. not (i == p)) q (nodes n) (ap not other) (in-nodes n q is)

-- ---- the packets of a tick go to nodes

-- an element of a filtered list is an element of the list
pub filtered-in : {A : Type 0} (test : A → Bool) (x : A) (xs : List A) → IsIn x (filter test xs)
    → IsIn x xs
filtered-in test x [] h = h
filtered-in test x (y ∷ xs) h =
    cond_both (test y) (y ∷ filter test xs) (filter test xs) (λ ys. IsIn x ys → IsIn x (y ∷ xs))
    (λ _ k. ⊎_elim (λ e. inl e) (λ e. inr (filtered-in test x xs e)) k)
    (λ _ k. inr (filtered-in test x xs k)) h

abbrev pub ToNode : ℕ → Carried → Type 0
ToNode n packet = is_node n packet.target ≡ true

packets-to_nodes : (n p : ℕ) (flags : ℕ → Flags) (pair : Label × Content) (targets : List ℕ)
    → ((q : ℕ) → IsIn q targets → is_node n q ≡ true)
    → AllByRecursion (ToNode n) (packets_to p flags targets pair)
packets-to_nodes n p flags pair [] h = tt
packets-to_nodes n p flags pair (q ∷ targets) h =
    (h q (inl refl), packets-to_nodes n p flags pair targets (λ i k. h i (inr k)))

-- packets that a tick resends go to nodes of the group
pub resent-to_nodes : (n p : ℕ) (node : Node) (pairs : List (Label × Content))
    → AllByRecursion (ToNode n) (resent_packets n p node pairs)
resent-to_nodes n p node [] = tt
resent-to_nodes n p node (pair ∷ pairs) =
    all_append (ToNode n) (to_unheard n p (cert node.records) node.heard pair)
    (resent_packets n p node pairs)
    (packets-to_nodes n p _ pair (filter (λ q. not (acked node.heard pair.0 q)) (others n p))
    (λ q h. nodes-in n q (filtered-in (λ i. not (i == p)) q (nodes n)
    (filtered-in (λ i. not (acked node.heard pair.0 i)) q (others n p) h))))
    (resent-to_nodes n p node pairs)

-- ---- the packet of one pair

-- the packet of the pair that a tick of p in this world sends to q
abbrev pub packet_to : World → ℕ → ℕ → Label → Content → Carried
packet_to w p q x m = record {
  source = p;
  target = q;
  name = x;
  message = m;
  flags =
      Some (record { certified = has_name (cert (stored w p)) x; heard = false });
}

-- the packet of a pair that is resent, if its certificate wasn't heard from q
pub packet-in : (w : World) (p q : ℕ) (x : Label) (m : Content) → (q == p) ≡ false
    → acked (w.node p).heard x q ≡ false → is_node w.size.n q ≡ true
    → (pairs : List (Label × Content)) → IsIn (x, m) pairs
    → IsIn (packet_to w p q x m) (flat_map
    (to_unheard w.size.n p (cert (w.node p).records) (w.node p).heard) pairs)
packet-in w p q x m other unheard there pairs h =
    in-flat_map (to_unheard w.size.n p (cert (w.node p).records) (w.node p).heard) (x, m) pairs
    (packet_to w p q x m) h
    (in-map (λ i. packet_to w p i x m) q
    (filter (λ i. not (acked (w.node p).heard x i)) (others w.size.n p))
    (in-filter (λ i. not (acked (w.node p).heard x i)) q (others w.size.n p) (ap not unheard)
    (in-others w.size.n p q there other)))

-- ---- a name's sender is a node

-- the sender of a name that a node knows is a node of the group
pub sender-node : (w : World) → Sound w → (p : ℕ) (x : Label) → knows (stored w p) x ≡ true
    → is_node w.size.n x.sender ≡ true
sender-node w sound p x h =
    and_from (nat_lt 0 x.sender) _ (lt-ltb 0 x.sender (above x.sender refl))
    (and_parts (nat_lt x.sender (suc w.size.n)) _ range).0
  where
    theirs : knows (stored w x.sender) x ≡ true
    theirs = known-sender w sound p x h

    range : in_range w.size x ≡ true
    range =
        let pair = known-pair (stored w p) x h in
        kept-range w.size (stored w) p (stored w p) (sound.kept.nodes p).kept x pair.0 pair.1

    above : (s : ℕ) → x.sender ≡ s → 0 < s
    above zero e =
        absurd (false≢true (sym (ap (λ rs. knows rs x) (ap (stored w) e ∙ sound.live.none))
        ∙ theirs))
    above (suc s) e = omega arith
