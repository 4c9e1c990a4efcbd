-- One node's part of the world: what it has stored, its state, and what else it holds.
use Rattle.std.specs.Prelude.{Bool, List, None, Option, [], map, ℕ}
use Rattle.urb_names.specs.LabelsAndContents.{Content, Label}
use Rattle.urb_names.specs.Pairs.{own}
use Rattle.urb_node.specs.declared.cause.Cause.{Cause}
use Rattle.urb_stable.specs.Entries.{Entry}
use Rattle.urb_stable.specs.Records.{pend}

-- the cause of a draft: a packet from node q, and whether it said that q has stored a certificate
abbrev pub packet_from : ℕ → Bool → Cause
packet_from q certified = record { source = q; certified = certified }

-- Ready; storing a record, with the packet that caused it, if any; down, perhaps with one doubtful
-- record.
pub data State : Type 0 where
  Ready : State
  Storing : (entry : Entry) (cause : Option Cause) → State
  Down : (doubtful : Option Entry) → State

-- One node's part of the world: its stored records, its state, its cursor, and the messages that it
-- has broadcast. Also the acknowledgements that it has counted, and the certificates that it has
-- heard of.
pub record Node : Type 0 where
  pub records : List Entry  -- what its storage holds
  pub state : State
  pub acks : List (Label × ℕ)  -- the acknowledgements counted
  pub heard : List (Label × ℕ)  -- the certificates heard: names, each with a node that said that it has stored one
  pub cursor : Option Label
  pub broadcast : List Content  -- what it has broadcast

-- a node's own acknowledgements of these pairs
abbrev pub self_acks : ℕ → List (Label × Content) → List (Label × ℕ)
self_acks p pairs = map (λ pair. (pair.0, p)) pairs

-- a node's own acknowledgements of all its pending names
abbrev pub own_acks : ℕ → List Entry → List (Label × ℕ)
own_acks p records = self_acks p (pend records)

-- a ready node that has read these records
abbrev pub opened_node : ℕ → List Entry → Node
opened_node p records = record {
  records = records;
  state = Ready;
  acks = own_acks p records;
  heard = [];
  cursor =
      None;
  broadcast = own p (pend records);
}
