-- What a datagram says of certificates.
use Rattle.std.proofs.Common.{Err, List, Ok, Result, false, subst, refl, ℕ, ◌≡◌}
use Rattle.urb_names.specs.CarriedPackets.{Carried}
use Rattle.urb_names.specs.PacketGrammar.{packet_of}
use Rattle.urb_names.specs.declared.refusal.PacketFault.{PacketFault}
use Rattle.urb_node.specs.Steps.{says_heard}
use Rattle.urb_worker.specs.internal.Pulses.{says_so, tells_heard}

-- a datagram that is a packet
pub said_by_packet : (datagram : List ℕ) (packet : Carried) → Ok packet ≡ packet_of datagram
    → says_heard packet.flags ≡ tells_heard datagram
said_by_packet datagram packet is =
    subst (λ (r : Result Carried PacketFault). says_heard packet.flags ≡ says_so r) is refl

-- a datagram that is none
pub said_by_none : (datagram : List ℕ) (fault : PacketFault) → Err fault ≡ packet_of datagram
    → false ≡ tells_heard datagram
said_by_none datagram fault is =
    subst (λ (r : Result Carried PacketFault). false ≡ says_so r) is refl
