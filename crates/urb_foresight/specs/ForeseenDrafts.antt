-- What a group foresees of a call that waits at a node: the record that the call will draft once
-- the records foreseen before it are stored.
use Rattle.std.specs.Prelude.{IsTrue, List, None, Ok, Option, Some, [], false, length, true, ℕ}
use Rattle.std.specs.Prelude.{◌++◌, ◌∷◌, ◌≡◌, ◌≢◌, ◌⊎◌}
use Rattle.urb_names.specs.Acknowledgements.{acked}
use Rattle.urb_names.specs.LabelsAndContents.{Content, Label}
use Rattle.urb_names.specs.ListPrefixes.{Begins}
use Rattle.urb_names.specs.Names.{has_name}
use Rattle.urb_names.specs.Nodes.{is_majority, is_node}
use Rattle.urb_names.specs.PacketGrammar.{packet_of}
use Rattle.urb_names.specs.Pairs.{has_pair}
use Rattle.urb_names.specs.declared.refusal.NoMemory.{NoMemory}
use Rattle.urb_stable.specs.Entries.{Entry, name_of}
use Rattle.urb_stable.specs.Records.{cert, pend}
use Rattle.urb_stable.specs.declared.record.Record.TheVariants.{Cert}
use Rattle.urb_node.specs.Part.{Ready, Storing}
use Rattle.urb_node.specs.Replies.{Drafted}
use Rattle.urb_node.specs.Steps.{next_position}
use Rattle.urb_node.specs.declared.cause.Cause.{Cause}
use Rattle.urb_world.specs.Step.{Arrive, Event, IsReached, Submit, is_for, step}
use Rattle.urb_world.specs.StoresAhead.{MayFollow}
use Rattle.urb_world.specs.World.{World, stored, truthful}
use Rattle.urb_group.specs.GroupViews.{GroupView, Shows}
use Rattle.urb_foresight.specs.declared.foreseen.Foreseen.{Foreseen}
use Rattle.urb_foresight.specs.declared.foreseen.Foreseen.TheVariants as foreseen
use Rattle.urb_foresight.specs.declared.foresight.TheConstants.{MAX_BATCH}
use Rattle.urb_foresight.specs.declared.waiting_call.WaitingCall.{WaitingCall}
use Rattle.urb_foresight.specs.declared.waiting_call.WaitingCall.TheVariants as waiting

-- the event of a call that waits at node p
abbrev pub event_of : {A : Type 0} → ℕ → WaitingCall A → Event
event_of p (waiting.Submit client number payload) =
    Submit p (record { client = client; number = number; payload = payload.now })
event_of p (waiting.Arrive bytes) = Arrive p (packet_of bytes.now)

-- The second world is the first one once node p has stored these records too, which may follow, and
-- is ready for the next call. Other nodes may have stored more. But if p has counted a node for a
-- name that isn't certified at p, then what that node has stored of this name isn't new.
pub record IsOnceStored (w : World) (p : ℕ) (records : List Entry) (v : World) : Type 0 where
  pub size : v.size ≡ w.size
  pub ready : (v.node p).state ≡ Ready
  pub may : MayFollow w.size (stored w) p (stored w p) records
  pub behind : stored v p ≡ stored w p ++ records
  pub others : (q : ℕ) → q ≢ p → Begins (stored w q) (stored v q)
  pub heard : (x : Label) (m : Content) (q : ℕ) → q ≢ p → has_name (cert (stored v p)) x ≡ false
      → acked (v.node p).acks x q ≡ true → has_pair (pend (stored v q)) x m ≡ true
      → has_pair (pend (stored w q)) x m ≡ true

-- this is so in each world of a run that the group's world becomes once node p has stored these
-- records
abbrev pub OnceStored : GroupView → ℕ → List Entry → (World → Type 0) → Type 0
OnceStored group p records IsSo =
    (w v : World) → Shows group w → IsReached w → IsReached v → IsOnceStored w p records v → IsSo v

-- the event makes node p draft this record: the reply says so, and the node holds the record
pub record Drafts (p : ℕ) (event : Event) (r : Entry) (v : World) : Type 0 where
  pub told : (step v event).0 ≡ Drafted (name_of r) (next_position (v.node p))
  pub cause : Option Cause
  pub held : ((step v event).1.node p).state ≡ Storing r cause

-- the event makes node p draft no record: the node is ready after it
abbrev pub DraftsNone : ℕ → Event → World → Type 0
DraftsNone p event v = ((step v event).1.node p).state ≡ Ready

-- the group has node p, and it is ready
abbrev pub IsReadyNode : ℕ → World → Type 0
IsReadyNode p w = IsTrue (is_node w.size.n p) × ((w.node p).state ≡ Ready)

-- The event is a packet of a name that is pending and not certified, and it depends on which nodes
-- are counted whether a certificate is drafted. A group doesn't tell that, and two nodes of this
-- group are no majority.
abbrev pub HangsOnCounts : GroupView → ℕ → List Entry → Event → Type 0
HangsOnCounts group p records (Arrive q (Ok packet)) =
    (w : World) → Shows group w
    → (is_majority 2 w.size.n ≡ false)
    × MayFollow w.size (stored w) p (stored w p) (records ++ Cert packet.name ∷ [])
HangsOnCounts group p records event = ⊥

-- The event is a packet for node p, and its source has not stored all that it says: its pair, or the
-- certificate that it reports. The source may store it before the packet's turn.
abbrev pub SaysMore : GroupView → ℕ → Event → Type 0
SaysMore group p (Arrive q (Ok packet)) =
    (w : World) → Shows group w → IsReached w
    → (is_for w p packet ≡ true) × (truthful w packet ≡ false)
SaysMore group p event = ⊥

-- Why nothing is foreseen of an event. There are as many records as there may be, or node p isn't
-- ready. Or it depends on which nodes are counted, or on what the packet's source stores next.
abbrev pub IsUnforeseeable : GroupView → ℕ → List Entry → Event → Type 0
IsUnforeseeable group p records event =
    (length records ≡ MAX_BATCH)
    ⊎ (((w : World) → Shows group w → IsReadyNode p w → ⊥)
    ⊎ (HangsOnCounts group p records event ⊎ SaysMore group p event))

-- What is foreseen of an event of node p behind the records foreseen before (`old`): a draft, whose
-- record is put behind them; no draft; or nothing.
abbrev pub Foresees : GroupView → ℕ → List Entry → Event → Foreseen → List Entry → Type 0
Foresees group p old event foreseen.Draft new =
    (r : Entry) × (new ≡ old ++ r ∷ []) × OnceStored group p old (Drafts p event r)
Foresees group p old event foreseen.NoDraft new =
    (new ≡ old) × OnceStored group p old (DraftsNone p event)
Foresees group p old event foreseen.Unsure new =
    (new ≡ old) × IsUnforeseeable group p old event

-- node p is ready, and these records may follow those that it has stored
abbrev pub MayBeNext : GroupView → ℕ → List Entry → Type 0
MayBeNext group p records =
    (w : World) → Shows group w
    → ((w.node p).state ≡ Ready) × MayFollow w.size (stored w) p (stored w p) records

-- if a draft is foreseen, node p may store these records next
abbrev pub MayBeStored : GroupView → ℕ → List Entry → Foreseen → Type 0
MayBeStored group p records foreseen.Draft = MayBeNext group p records
MayBeStored group p records foreseen = Unit {0}

-- Why no further event is foreseen: nothing is foreseen of this one, or memory was refused.
abbrev pub EndsAt : GroupView → ℕ → List Entry → Event → Option NoMemory → Type 0
EndsAt group p records event None = IsUnforeseeable group p records event
EndsAt group p records event (Some refused) = Unit {0}

-- What is foreseen of these events of node p, behind the records foreseen before (`old`). Each event
-- in turn is foreseen behind the records of those before it, up to the end of the list, or up to an
-- event with which this ends.
abbrev pub ForeseesCalls : GroupView → ℕ → List Event → List Entry → List Entry → Option NoMemory
    → Type 0
ForeseesCalls group p [] old new refused = (new ≡ old) × (refused ≡ None)
ForeseesCalls group p (event ∷ events) old new refused =
    ((new ≡ old) × EndsAt group p old event refused)
    ⊎ ((told : Foreseen) × (between : List Entry) × (told ≢ foreseen.Unsure)
    × Foresees group p old event told between × ForeseesCalls group p events between new refused)
