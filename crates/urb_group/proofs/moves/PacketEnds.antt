-- The places of a packet's source and of the node that it is for.
use Rattle.urb_group.proofs.Common.{AreEnds, Carried, and_from, and_right, ap, eq-eqb, false}
use Rattle.urb_group.proofs.Common.{is_for_node, is_node, subst, suc, sym, true, ℕ, ◌&&◌, ◌<◌, ◌==◌}
use Rattle.urb_group.proofs.Common.{◌≡◌}
use Rattle.urb_group.proofs.shown.ShownWorlds.{is-node, no-node}

-- a packet with another target is not for the node
pub not_target : (n p : ℕ) (packet : Carried) → (packet.target == p) ≡ false
    → is_for_node n p packet ≡ false
not_target n p packet h =
    ap (λ b. b && is_node n p) (and_right (is_node n packet.source && is_node n packet.name.sender)
    (packet.target == p) h)

-- a packet whose sender's number is above n is for none of n nodes
pub not_sender : (n p : ℕ) (packet : Carried) → n < packet.name.sender
    → is_for_node n p packet ≡ false
not_sender n p packet h =
    ap (λ b. (b && (packet.target == p)) && is_node n p)
    (and_right (is_node n packet.source) (is_node n packet.name.sender)
    (no-node n packet.name.sender h))

-- a packet whose source's number is above n is for none of n nodes
pub not_source : (n p : ℕ) (packet : Carried) → n < packet.source → is_for_node n p packet ≡ false
not_source n p packet h =
    ap (λ b. ((b && is_node n packet.name.sender) && (packet.target == p)) && is_node n p)
    (no-node n packet.source h)

-- no packet is for a number above n
pub not_node : (n p : ℕ) (packet : Carried) → n < p → is_for_node n p packet ≡ false
not_node n p packet h =
    and_right ((is_node n packet.source && is_node n packet.name.sender) && (packet.target == p))
    (is_node n p) (no-node n p h)

-- the number of a place is a node's
is_one : (n p i : ℕ) → (i < n) × (p ≡ suc i) → is_node n p ≡ true
is_one n p i h = subst (λ (k : ℕ). is_node n k ≡ true) (sym h.1) (is-node n i h.0)

-- if the sender, the source and the target have places, the packet is for the target, from the
-- source's place
pub ends_are : (n p : ℕ) (packet : Carried) (sender source at : ℕ) → packet.target ≡ p
    → (sender < n) × (packet.name.sender ≡ suc sender) → (source < n) × (packet.source ≡ suc source)
    → (at < n) × (p ≡ suc at)
    → AreEnds n p packet (source, at)
ends_are n p packet sender source at t s q a =
    record {
      is_for =
          and_from ((is_node n packet.source && is_node n packet.name.sender)
          && (packet.target == p)) (is_node n p)
          (and_from (is_node n packet.source && is_node n packet.name.sender) (packet.target == p)
          (and_from (is_node n packet.source) (is_node n packet.name.sender)
          (is_one n packet.source source q) (is_one n packet.name.sender sender s))
          (eq-eqb packet.target p t))
          (is_one n p at a);
      source = (q.1, q.0);
      target = (t, a.1, a.0);
    }
