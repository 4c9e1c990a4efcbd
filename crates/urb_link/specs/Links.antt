-- What a link does with a packet.
use Rattle.std.specs.Prelude.{List, None, Option, Some, slice_get, ℕ, ◌-◌, ◌<◌, ◌≡◌, ◌⊎◌}
use Rattle.urb_link.specs.declared.handed.Handed.{Handed}
use Rattle.urb_link.specs.declared.handed.Way.{Way}
use Rattle.urb_link.specs.declared.handed.Way.TheVariants as way

-- a link was given these bytes for this node
abbrev pub IsOf : ℕ → List ℕ → Handed → Type 0
IsOf target bytes handed = (handed.target ≡ target) × (handed.bytes.now ≡ bytes)

-- the bytes were given to a socket, as one datagram for this port
abbrev pub IsToPort : ℕ → Way → Type 0
IsToPort port (way.ToPort to) = to ≡ port
IsToPort port way.ToMailbox = ⊥
IsToPort port way.ToNobody = ⊥
IsToPort port (way.Refused no_memory) = ⊥

-- the bytes were put into a mailbox in memory
abbrev pub IsToMailbox : Way → Type 0
IsToMailbox (way.ToPort to) = ⊥
IsToMailbox way.ToMailbox = Unit {0}
IsToMailbox way.ToNobody = ⊥
IsToMailbox (way.Refused no_memory) = ⊥

-- the link has no such node
abbrev pub IsToNobody : Way → Type 0
IsToNobody (way.ToPort to) = ⊥
IsToNobody way.ToMailbox = ⊥
IsToNobody way.ToNobody = Unit {0}
IsToNobody (way.Refused no_memory) = ⊥

-- memory was refused
abbrev pub IsRefused : Way → Type 0
IsRefused (way.ToPort to) = ⊥
IsRefused way.ToMailbox = ⊥
IsRefused way.ToNobody = ⊥
IsRefused (way.Refused no_memory) = Unit {0}

-- the way over this port, or to nobody if there is none
abbrev pub IsByPort : Option ℕ → Way → Type 0
IsByPort (Some port) taken = IsToPort port taken
IsByPort None taken = IsToNobody taken

-- the way over the ports of the nodes 1, 2, ..: to the port of the target
abbrev pub IsByPorts : List ℕ → ℕ → Way → Type 0
IsByPorts ports target taken = IsByPort (slice_get ports (target - 1)) taken

-- the way into so many mailboxes, of the nodes 1, 2, ..: if there is one for the target, the bytes
-- are in a mailbox, or memory was refused
abbrev pub IsByMailboxes : ℕ → ℕ → Way → Type 0
IsByMailboxes count target taken =
    IsToMailbox taken ⊎ IsRefused taken ⊎ ((count < target) × IsToNobody taken)
