-- A configuration, a name and a message, as contracts see them.
use Rattle.std.specs.Prelude.{◌<◌, ◌≤◌, ◌^◌, ℕ, List, length}
use Rattle.urb_names.specs.declared.limits.TheConstants.{MAX_CAP, MAX_NODES, MAX_PAYLOAD}

-- the number of nodes, and the number of messages that each may broadcast
pub record Limits : Type 0 where
  pub n : ℕ
  pub cap : ℕ

-- one to MAX_NODES nodes, and a cap of one to MAX_CAP messages
abbrev pub IsLimits : Limits → Type 0
IsLimits l = (0 < l.n) × (l.n ≤ MAX_NODES) × (0 < l.cap) × (l.cap ≤ MAX_CAP)

-- a name: the sender, and the number among the sender's messages
pub record Label : Type 0 where
  pub sender : ℕ
  pub seq : ℕ

-- what is broadcast: the client, the number that the client gave, and the payload
pub record Content : Type 0 where
  pub client : ℕ
  pub number : ℕ
  pub payload : List ℕ

-- a name has a sender from 1 to MAX_NODES and a number from 1
pub record IsLabel (x : Label) : Type 0 where
  pub sender : (0 < x.sender) × (x.sender ≤ MAX_NODES)
  pub seq : (0 < x.seq) × (x.seq < 2 ^ 32)

-- a message has a nonzero client and number, and a payload of at most MAX_PAYLOAD bytes
pub record IsContent (m : Content) : Type 0 where
  pub client : (0 < m.client) × (m.client < 2 ^ 16)
  pub number : (0 < m.number) × (m.number < 2 ^ 32)
  pub payload : length m.payload ≤ MAX_PAYLOAD
