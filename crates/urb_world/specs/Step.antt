-- One step of the group, and a whole run.
use Rattle.std.specs.Prelude.{Bool, Err, List, Ok, Result, [], if◌then◌else◌, not, ℕ, ◌&&◌, ◌++◌, ◌==◌, ◌∷◌, ◌≡◌}
use Rattle.urb_world.specs.World.{AreImages, World, image_of, opened, started, truthful, updated}
use Rattle.urb_names.specs.CarriedPackets.{Carried}
use Rattle.urb_names.specs.LabelsAndContents.{Content, Limits}
use Rattle.urb_names.specs.Nodes.{is_node}
use Rattle.urb_names.specs.declared.refusal.PacketFault.{PacketFault}
use Rattle.urb_node.specs.Part.{Node}
use Rattle.urb_node.specs.Replies.{Refused, Reply, packets_in}
use Rattle.urb_node.specs.Steps.{arrives, commits, crashes, fails, is_down, is_storing, refuses}
use Rattle.urb_node.specs.Steps.{restarts, submits, ticks}
use Rattle.urb_stable.specs.Entries.{Entry}
use Rattle.urb_stable.specs.Fitting.{Fits}
use Rattle.urb_names.specs.declared.refusal.Refusal.TheVariants as refusal

-- What may happen: a submit, an arrival, a tick, a commit, a failed store, a crash, or a restart.
-- Whether a draft is stored or fails, and which image a restart gets, is part of the event.
pub data Event : Type 0 where
  Submit : (p : ℕ) (m : Content) → Event
  Arrive : (p : ℕ) (bytes : Result Carried PacketFault) → Event  -- what the bytes are
  Tick : (p : ℕ) → Event
  Commit : (p : ℕ) (position : ℕ) (entry : Entry) → Event  -- the receipt's record and position
  Fail : (p : ℕ) → Event
  Crash : (p : ℕ) → Event
  Restart : (p : ℕ) (image : List Entry) → Event

-- the node's part, and its packets, in the world
abbrev pub world_after : World → ℕ → Reply × Node → Reply × World
world_after w p outcome = (
  outcome.0,
  record {
    size = w.size;
    node = updated w.node p outcome.1;
    sent =
        w.sent ++ packets_in outcome.0;
  },
)

-- an event of node p, if there is such a node
abbrev pub at_node : World → ℕ → Reply × Node → Reply × World
at_node w p outcome =
    if is_node w.size.n p then world_after w p outcome else (Refused refusal.BadNode, w)

-- whether the packet names only nodes of the group, and is for p
abbrev pub is_for : World → ℕ → Carried → Bool
is_for w p packet =
    (is_node w.size.n packet.source && is_node w.size.n packet.name.sender) && (packet.target == p)

-- a packet comes to p: a refusal, or its arrival at a ready node
abbrev pub packet_arrives : World → ℕ → Carried → Reply × Node
packet_arrives w p packet =
    if is_down (w.node p).state then refuses (w.node p) refusal.Down
    else (if is_storing (w.node p).state then refuses (w.node p) refusal.Busy
    else (if not (truthful w packet) then refuses (w.node p) refusal.Forged
    else arrives w.size p packet.source packet.name packet.message packet.flags (w.node p)))

-- bytes come to p: no packet, one for another node, or one for p
abbrev pub bytes_arrive : World → ℕ → Result Carried PacketFault → Reply × World
bytes_arrive w p (Err fault) = (Refused (refusal.Packet fault), w)
bytes_arrive w p (Ok packet) =
    if is_for w p packet then at_node w p (packet_arrives w p packet) else
    (Refused refusal.BadNode, w)

-- the reply to an event, and the world after it
unfoldable pub step : World → Event → Reply × World
step w (Submit p m) = at_node w p (submits w.size p m (w.node p))
step w (Arrive p bytes) = bytes_arrive w p bytes
step w (Tick p) = at_node w p (ticks w.size.n p (w.node p))
step w (Commit p position entry) =
    at_node w p (commits w.size.n p position entry (w.node p) (w.node p).state)
step w (Fail p) = at_node w p (fails p (w.node p) (w.node p).state)
step w (Crash p) = at_node w p (crashes p (w.node p))
step w (Restart p image) = at_node w p (restarts p image (w.node p) (w.node p).state)

-- the replies to a list of events, and the world after it
unfoldable pub run : World → List Event → List Reply × World
run w [] = ([], w)
run w (event ∷ events) =
    let rest = run (step w event).1 events in ((step w event).0 ∷ rest.0, rest.1)

-- from this world these events lead to the other one, with these replies
abbrev pub Run : World → List Event → List Reply → World → Type 0
Run w events replies after = run w events ≡ (replies, after)

-- a run begins with a new group, or with the group of images that fit together
pub data IsStart : World → Type 0 where
  Of_new : (size : Limits) → IsStart (started size)
  Of_images : (size : Limits) (images : List (List Entry)) → AreImages size images
      → Fits size (image_of images) → IsStart (opened size (image_of images))

-- some run leads to this world
pub record IsReached (w : World) : Type 0 where
  pub start : World
  pub is_start : IsStart start
  pub events : List Event
  pub replies : List Reply
  pub ran : Run start events replies w
