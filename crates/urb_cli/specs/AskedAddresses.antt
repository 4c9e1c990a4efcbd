-- The addresses of the nodes that a client asks, and their texts.
use Rattle.std.specs.Prelude.{ℕ, ◌+◌, List}
use Rattle.std.specs.Fmt.{decimal}
use Rattle.urb_options.specs.Addresses.{Address, AtPort, AtSocket}

-- the number of the port, or the path
abbrev pub address_text : Address → List ℕ
address_text (AtPort port) = decimal port
address_text (AtSocket path) = path

-- The address of a node that comes `later` nodes after this one. A socket is one node's alone.
abbrev pub address_after : Address → ℕ → Address
address_after (AtPort port) later = AtPort (port + later)
address_after (AtSocket path) later = AtSocket path
