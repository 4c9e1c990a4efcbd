-- Which addresses there are.
use Rattle.std.specs.Prelude.{◌<◌, ◌≤◌, ◌+◌, ℕ, ⊤}
use Rattle.std.specs.Coded.{×_prop, Unit-prop, le_prop}
use Rattle.urb_options.specs.declared.node_address.NodeAddress.{NodeAddress}
use Rattle.urb_options.specs.declared.node_address.NodeAddress.TheVariants as address

-- no node has the port 0
abbrev pub IsAddress : NodeAddress → Type 0
IsAddress (address.Port port) = 0 < port
IsAddress (address.Socket path) = ⊤

-- that holds in one way at most
pub IsAddress-prop : (at : NodeAddress) → IsProp (IsAddress at)
IsAddress-prop (address.Port port) = le_prop
IsAddress-prop (address.Socket path) = Unit-prop

-- so many ports from this one on, or the one socket at most
abbrev pub AreAddresses : NodeAddress → ℕ → Type 0
AreAddresses (address.Port port) count = (0 < port) × (port + count ≤ 65536)
AreAddresses (address.Socket path) count = count ≤ 1

-- that holds in one way at most
pub AreAddresses-prop : (at : NodeAddress) (count : ℕ) → IsProp (AreAddresses at count)
AreAddresses-prop (address.Port port) count = ×_prop le_prop le_prop
AreAddresses-prop (address.Socket path) count = le_prop
