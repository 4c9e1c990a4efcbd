-- No state is a dead end: what is stored can still be delivered at every node. This needs no new
-- message, no crash and no failed store.
use Rattle.std.specs.Prelude.{Bool, Err, IsTrue, List, Ok, Result, Some, [], length, map, slice_get}
use Rattle.std.specs.Prelude.{ℕ, ◌∷◌, ◌≡◌}
use Rattle.urb_world.specs.RunMoments.{GoesOn}
use Rattle.urb_world.specs.RecoveryPlans.{after, recovery}
use Rattle.urb_world.specs.Step.{Arrive, Commit, Crash, Event, Fail, Restart, Submit, Tick, step}
use Rattle.urb_world.specs.World.{World, stored}
use Rattle.urb_names.specs.CarriedPackets.{Carried}
use Rattle.urb_names.specs.Names.{has_name, names}
use Rattle.urb_names.specs.LabelsAndContents.{Content, Label}
use Rattle.urb_names.specs.Nodes.{is_node}
use Rattle.urb_names.specs.Pairs.{has_pair, message_of}
use Rattle.urb_names.specs.Release.{part_of}
use Rattle.urb_names.specs.declared.refusal.PacketFault.{PacketFault}
use Rattle.urb_node.specs.Part.{Ready}
use Rattle.urb_node.specs.Replies.{Drafted, Refused, Reply, Same, Sent, Stored, Up, WentDown}
use Rattle.urb_stable.specs.DeliveredLogs.{log}
use Rattle.urb_stable.specs.Records.{cert, pend}

-- an event was not refused
abbrev pub IsDone : Reply → Type 0
IsDone (Drafted x position) = Unit {0}
IsDone (Same told) = Unit {0}
IsDone (Stored done) = Unit {0}
IsDone (Sent packets) = Unit {0}
IsDone (WentDown p) = Unit {0}
IsDone (Up p) = Unit {0}
IsDone (Refused refusal) = ⊥

-- the packet is among those that were sent
abbrev pub WasSent : World → Carried → Type 0
WasSent w packet = (i : ℕ) × (slice_get w.sent i ≡ Some packet)

-- bytes that come to p are a packet for p that was sent
abbrev pub ArrivesAsSent : World → ℕ → Result Carried PacketFault → Type 0
ArrivesAsSent w p (Err fault) = ⊥
ArrivesAsSent w p (Ok packet) = (packet.target ≡ p) × WasSent w packet

-- no submit, no crash, no failed store, and no packet that nobody sent
abbrev pub IsHarmless : World → Event → Type 0
IsHarmless w (Submit p m) = ⊥
IsHarmless w (Arrive p bytes) = ArrivesAsSent w p bytes
IsHarmless w (Tick p) = Unit {0}
IsHarmless w (Commit p position entry) = Unit {0}
IsHarmless w (Fail p) = ⊥
IsHarmless w (Crash p) = ⊥
IsHarmless w (Restart p image) = Unit {0}

-- each of these events, one after the other, is harmless and isn't refused
abbrev pub Goes : World → List Event → Type 0
Goes w [] = Unit {0}
Goes w (event ∷ events) =
    IsHarmless w event × IsDone (step w event).0 × Goes (step w event).1 events

-- node p is ready, and its log has, for each sender, the names of all messages that this sender's
-- storage took, with these messages
pub record HasDelivered (w : World) (p : ℕ) : Type 0 where
  pub ready : (w.node p).state ≡ Ready
  pub names : (s : ℕ) → IsTrue (is_node w.size.n s)
      → part_of s (log (stored w p)) ≡ names s (length (w.node s).broadcast)
  pub messages : (s : ℕ) → IsTrue (is_node w.size.n s)
      → map (message_of (pend (stored w p))) (part_of s (log (stored w p))) ≡ map Some
      (w.node s).broadcast

-- this is so for every node
abbrev pub AllDelivered : World → Type 0
AllDelivered w = (p : ℕ) → IsTrue (is_node w.size.n p) → HasDelivered w p

-- The group has more than one node, or its one node has certified all that it has stored. (A node
-- that is alone certifies a message as it takes it. But it may be opened from the image of a node
-- that was not alone.)
abbrev pub IsNotStranded : World → Type 0
IsNotStranded w =
    w.size.n ≡ 1 → (x : Label) (m : Content) → IsTrue (has_pair (pend (stored w 1)) x m)
    → IsTrue (has_name (cert (stored w 1)) x)

-- These events go on from the world. Each is harmless, and none is refused. After them everything
-- is delivered.
pub record Delivers (w : World) (events : List Event) : Type 0 where
  pub goes : Goes w events
  pub onward : GoesOn w (after w events)
  pub delivered : AllDelivered (after w events)

-- the recovery delivers everything, whatever the storages of nodes that are down kept
abbrev pub CanDeliver : World → Type 0
CanDeliver w = (keeps_doubtful : ℕ → Bool) → Delivers w (recovery keeps_doubtful w)

-- ---- a group that is stranded

-- bytes that come are no packet, or a packet that was sent
abbrev pub BytesAsSent : World → Result Carried PacketFault → Type 0
BytesAsSent w (Err fault) = Unit {0}
BytesAsSent w (Ok packet) = WasSent w packet

-- anything may happen, except that a packet comes that nobody sent
abbrev pub IsAsSent : World → Event → Type 0
IsAsSent w (Submit p m) = Unit {0}
IsAsSent w (Arrive p bytes) = BytesAsSent w bytes
IsAsSent w (Tick p) = Unit {0}
IsAsSent w (Commit p position entry) = Unit {0}
IsAsSent w (Fail p) = Unit {0}
IsAsSent w (Crash p) = Unit {0}
IsAsSent w (Restart p image) = Unit {0}

-- this holds for each of these events, one after the other
abbrev pub AreAsSent : World → List Event → Type 0
AreAsSent w [] = Unit {0}
AreAsSent w (event ∷ events) = IsAsSent w event × AreAsSent (step w event).1 events
