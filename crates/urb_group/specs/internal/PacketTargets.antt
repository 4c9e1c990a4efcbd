-- Which packets are for a node of a group, and which of them are truthful.
use Rattle.std.specs.Prelude.{Bool, ◌&&◌, ◌<◌, ◌==◌, ◌||◌, ◌≡◌, not, suc, true, ℕ}
use Rattle.urb_names.specs.CarriedPackets.{Carried, says_certified}
use Rattle.urb_names.specs.Names.{has_name}
use Rattle.urb_names.specs.Nodes.{is_node}
use Rattle.urb_names.specs.Pairs.{has_pair}
use Rattle.urb_node.specs.Part.{Node}
use Rattle.urb_stable.specs.Records.{cert, pend}
use Rattle.urb_group.specs.internal.PlaceInvariant.{ShowsAt}
use Rattle.urb_world.specs.World.{bears_out}
use Rattle.urb_group.specs.declared.node_moves.Node.{Node as Place}

-- whether the packet is for node p of n nodes, and names only nodes of these
abbrev pub is_for_node : ℕ → ℕ → Carried → Bool
is_for_node n p packet =
    ((is_node n packet.source && is_node n packet.name.sender) && (packet.target == p))
    && is_node n p

-- the places of the packet's source, and of the node p that it is for
pub record AreEnds (n p : ℕ) (packet : Carried) (ends : ℕ × ℕ) : Type 0 where
  pub is_for : is_for_node n p packet ≡ true
  pub source : (packet.source ≡ suc ends.0) × (ends.0 < n)
  pub target : (packet.target ≡ p) × (p ≡ suc ends.1) × (ends.1 < n)

-- whether the node in this place has stored the packet's message under its name
abbrev pub HoldsPair : {A : Type 0} → Place A → Carried → Bool → Type 0
HoldsPair place packet result =
    (node : Node) → ShowsAt place node
    → result ≡ has_pair (pend node.records) packet.name packet.message

-- whether it has stored a certificate of the packet's name, if the packet reports one
abbrev pub IsAsCertified : {A : Type 0} → Place A → Carried → Bool → Type 0
IsAsCertified place packet result =
    (node : Node) → ShowsAt place node
    → result ≡ (not (says_certified packet.flags) || has_name (cert node.records) packet.name)

-- whether what the node in this place has stored confirms the packet
abbrev pub TellsTruth : {A : Type 0} → Place A → Carried → Bool → Type 0
TellsTruth place packet result =
    (node : Node) → ShowsAt place node → result ≡ bears_out node.records packet
