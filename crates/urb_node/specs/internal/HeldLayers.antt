-- What a node holds in memory, as its layers keep it: the invariant in each state.
use Rattle.std.specs.Prelude.{◌≡◌, ◌≤◌, ◌+◌, true, is_some, List, [], length, Some, Option}
use Rattle.std.specs.Option.{ForSome}
use Rattle.urb_names.specs.LabelsAndContents.{Label}
use Rattle.urb_names.specs.Names.{has_name}
use Rattle.urb_names.specs.Pairs.{message_of}
use Rattle.urb_names.specs.CarriedPackets.{Carried}
use Rattle.urb_stable.specs.Entries.{Entry}
use Rattle.urb_stable.specs.declared.record.Record.TheVariants.{Pend, PendCert, Cert}
use Rattle.urb_node.specs.RecordAdmission.{IsNext}
use Rattle.urb_node.specs.Steps.{packets_of}
use Rattle.urb_node.specs.NodeMemories.{Memory}
use Rattle.urb_node.specs.declared.cause.Cause.{Cause}
use Rattle.urb_node.specs.declared.held.Held.{Held}
use Rattle.urb_node.specs.LayerFields.{memory_of}

-- The layers belong to one node of one group. They agree on the certified names, which are all
-- pending. Each record is a pair or a certificate.
pub record IsHeld {A : Type 0} (h : Held A) : Type 0 where
  pub node : (1 ≤ h.node) × (h.node ≤ h.config.n)
  pub pending_limits : h.pending.limits ≡ h.config
  pub pending_node : h.pending.node ≡ h.node
  pub acks_limits : h.acks.limits ≡ h.config
  pub fifo_limits : h.fifo.limits ≡ h.config
  pub resend_limits : h.resend.limits ≡ h.config
  pub resend_node : h.resend.node ≡ h.node
  pub certified : h.fifo.certified ≡ h.acks.certified
  pub pending : (x : Label) → has_name h.acks.certified x ≡ true
      → is_some (message_of h.pending.pairs x) ≡ true
  pub room_to_hear : (x : Label) → is_some (message_of h.pending.pairs x) ≡ true
      → has_name h.resend.roomy x ≡ true
  pub count : h.stored ≤ length h.pending.pairs + length h.acks.certified

-- the record may come next after what this memory holds
abbrev pub IsNextIn : Memory → Entry → Type 0
IsNextIn a r = IsNext a.limits a.node a.pairs a.certified r

-- the record may come next after what the layers keep
abbrev pub IsNextHeld : {A : Type 0} → Held A → Entry → Type 0
IsNextHeld h r = IsNextIn (memory_of h) r

-- space is reserved for everything that the record will add
abbrev pub HasRoom : {A : Type 0} → Held A → Entry → Type 0
HasRoom h (Pend x m) =
    (h.pending.reserved ≡ Some (x, m.client)) × (h.acks.reserved ≡ Some x)
    × (has_name h.resend.roomy x ≡ true)
HasRoom h (PendCert x m) =
    (h.pending.reserved ≡ Some (x, m.client)) × (h.acks.reserved ≡ Some x)
    × (h.fifo.reserved ≡ Some x) × (has_name h.resend.roomy x ≡ true)
HasRoom h (Cert x) = (h.acks.reserved ≡ Some x) × (h.fifo.reserved ≡ Some x)

-- A draft of the record can be held. The record is next, there is space for it, and these are its
-- packets. If a node caused it, that node belongs to the group.
pub record IsDrafted {A : Type 0} (h : Held A) (entry : Entry) (cause : Option Cause)
    (packets : List Carried) : Type 0 where
  pub held : IsHeld h
  pub next : IsNextHeld h entry
  pub room : HasRoom h entry
  pub caused : ForSome cause (λ c. (1 ≤ c.source) × (c.source ≤ h.config.n))
  pub sends : packets ≡ packets_of h.config.n h.node entry cause

-- a node that is down holds this, and a doubtful record is next
pub record IsDown {A : Type 0} (h : Held A) (doubt : Option Entry) : Type 0 where
  pub held : IsHeld h
  pub doubtful : ForSome doubt (IsNextHeld h)

-- the same once what it counted and heard is dropped, which is how its restart begins
pub record IsFallen {A : Type 0} (h : Held A) (doubt : Option Entry) : Type 0 where
  pub held : IsHeld h
  pub uncounted : h.acks.counted ≡ []
  pub unheard : h.resend.heard ≡ []
  pub doubtful : ForSome doubt (IsNextHeld h)
