-- The addresses of nodes.
use Rattle.std.specs.Prelude.{ℕ}
use Rattle.clap.specs.Words.{Text}
use Rattle.urb_options.specs.declared.node_address.NodeAddress.{NodeAddress}
use Rattle.urb_options.specs.declared.node_address.NodeAddress.TheVariants as address

-- a port of this machine, or the path of a socket
pub data Address : Type 0 where
  AtPort : ℕ → Address
  AtSocket : Text → Address

-- the address by its value
abbrev pub address_of : NodeAddress → Address
address_of (address.Port port) = AtPort port
address_of (address.Socket path) = AtSocket path.now
