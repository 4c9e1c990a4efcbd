-- When records confirm a packet, and what they have then.
use Rattle.urb_world.proofs.Common.{Bool, Carried, Entry, List, and_from, and_parts, bears_out}
use Rattle.urb_world.proofs.Common.{cert, false, false≢true, has_name, has_pair, not, pend, refl}
use Rattle.urb_world.proofs.Common.{says_certified, true, ◌||◌, ◌≡◌}

-- if the first holds, the second does
to_implied : (a b : Bool) → (a ≡ true → b ≡ true) → (not a || b) ≡ true
to_implied true b h = h refl
to_implied false b h = refl

implied : (a b : Bool) → (not a || b) ≡ true → a ≡ true → b ≡ true
implied true b h e = h
implied false b h e = absurd (false≢true e)

-- records that have its pair, and its certificate if it reports one
pub to_borne : (records : List Entry) (packet : Carried)
    → has_pair (pend records) packet.name packet.message ≡ true
    → (says_certified packet.flags ≡ true → has_name (cert records) packet.name ≡ true)
    → bears_out records packet ≡ true
to_borne records packet pair certificate =
    and_from (has_pair (pend records) packet.name packet.message) _ pair
    (to_implied (says_certified packet.flags) (has_name (cert records) packet.name) certificate)

-- records that confirm a packet have its pair
pub borne-pair : (records : List Entry) (packet : Carried) → bears_out records packet ≡ true
    → has_pair (pend records) packet.name packet.message ≡ true
borne-pair records packet t = (and_parts (has_pair (pend records) packet.name packet.message) _ t).0

-- they also have the certificate that it reports
pub borne-certificate : (records : List Entry) (packet : Carried) → bears_out records packet ≡ true
    → says_certified packet.flags ≡ true → has_name (cert records) packet.name ≡ true
borne-certificate records packet t e =
    implied (says_certified packet.flags) (has_name (cert records) packet.name)
    (and_parts (has_pair (pend records) packet.name packet.message) _ t).1 e
