-- Rounds: what has to happen, in whatever order, for a group to deliver all that its storages took.
-- The laws of src/fairness.rt rest on this file. Whether events are a round follows from the events
-- and their replies. Nothing here says that rounds come. In a busy round clients may submit; in a
-- round that is only called a round they don't.
use Rattle.std.specs.Prelude.{Bool, Err, List, Ok, Result, Some, [], false, if◌then◌else◌}
use Rattle.std.specs.Prelude.{is_some, length, map, suc, true, ℕ, ◌&&◌, ◌*◌, ◌++◌, ◌==◌, ◌∷◌, ◌≡◌, ◌≤◌, ◌⊎◌}
use Rattle.std.specs.List.{AllByRecursion, sum_by}
use Rattle.urb_names.specs.declared.limits.TheConstants.{NAMES_PER_TICK}
use Rattle.urb_world.specs.RecoveryPlans.{after}
use Rattle.urb_world.specs.Scenes.{held_by}
use Rattle.urb_world.specs.Step.{Arrive, Commit, Crash, Event, Fail, Restart, Submit, Tick, run}
use Rattle.urb_world.specs.World.{World, stored}
use Rattle.urb_names.specs.ListPrefixes.{Begins}
use Rattle.urb_names.specs.CarriedPackets.{Carried, due_of}
use Rattle.urb_names.specs.CyclicOrder.{rising}
use Rattle.urb_names.specs.Names.{name, names}
use Rattle.urb_names.specs.LabelsAndContents.{Label}
use Rattle.urb_names.specs.Nodes.{is_node, nodes}
use Rattle.urb_names.specs.Pairs.{message_of}
use Rattle.urb_names.specs.Release.{part_of}
use Rattle.urb_names.specs.declared.refusal.PacketFault.{PacketFault}
use Rattle.urb_node.specs.Part.{Ready}
use Rattle.urb_node.specs.Replies.{Drafted, Refused, Reply, Same, Sent, Stored, Up, WentDown}
use Rattle.urb_node.specs.Replies.{packets_with}
use Rattle.urb_node.specs.Steps.{is_down}
use Rattle.urb_stable.specs.DeliveredLogs.{log}
use Rattle.urb_stable.specs.Records.{pend}

-- ---- what counts

-- What counts in a round. It is a tick of a node, with the packets that it sends; or a packet that
-- arrives, with the packets that answer it. Or it is a new message, which is drafted, or a failure: a
-- node crashes, or its store fails.
pub data Act : Type 0 where
  Ticks : (p : ℕ) (packets : List Carried) → Act
  Arrives : (packet : Carried) (answers : List Carried) → Act
  Adds : Act
  Breaks : Act

-- A new message adds, and a crash and a failed store break. A repeated submit, a receipt, a restart
-- and a refused event count for nothing.
abbrev pub disturbance : Reply → List Act
disturbance (Drafted x position) = Adds ∷ []
disturbance (Same told) = []
disturbance (Stored done) = []
disturbance (Sent packets) = []
disturbance (WentDown p) = Breaks ∷ []
disturbance (Up p) = []
disturbance (Refused refusal) = []

-- a tick of p counts unless it is refused
abbrev pub tick_by : ℕ → Reply → List Act
tick_by p (Drafted x position) = []
tick_by p (Same told) = []
tick_by p (Stored done) = []
tick_by p (Sent packets) = Ticks p packets ∷ []
tick_by p (WentDown q) = []
tick_by p (Up q) = []
tick_by p (Refused refusal) = []

-- Bytes that come count if they are a packet, unless it is refused. (A node that stores a record
-- refuses packets.)
abbrev pub arrival_by : Result Carried PacketFault → Reply → List Act
arrival_by (Err fault) reply = []
arrival_by (Ok packet) (Drafted x position) = Arrives packet [] ∷ []
arrival_by (Ok packet) (Same told) = Arrives packet (packets_with told) ∷ []
arrival_by (Ok packet) (Stored done) = []
arrival_by (Ok packet) (Sent packets) = []
arrival_by (Ok packet) (WentDown q) = []
arrival_by (Ok packet) (Up q) = []
arrival_by (Ok packet) (Refused refusal) = []

-- what an event with this reply counts as
abbrev pub act_of : Event → Reply → List Act
act_of (Submit p m) reply = disturbance reply
act_of (Arrive p bytes) reply = arrival_by bytes reply
act_of (Tick p) reply = tick_by p reply
act_of (Commit p position entry) reply = disturbance reply
act_of (Fail p) reply = disturbance reply
act_of (Crash p) reply = disturbance reply
act_of (Restart p image) reply = disturbance reply

-- what these count as, each with its reply, in order
abbrev pub acts_by : {A : Type 0} → (A → Reply → List Act) → List A → List Reply → List Act
acts_by act [] replies = []
acts_by act (x ∷ xs) [] = []
acts_by act (x ∷ xs) (reply ∷ replies) = act x reply ++ acts_by act xs replies

-- what these events count as in this world
abbrev pub acts_of : World → List Event → List Act
acts_of w events = acts_by act_of events (run w events).0

-- ---- a round

-- none of these is a failure
abbrev pub IsUnbroken : List Act → Type 0
IsUnbroken [] = Unit {0}
IsUnbroken (Ticks p packets ∷ acts) = IsUnbroken acts
IsUnbroken (Arrives packet answers ∷ acts) = IsUnbroken acts
IsUnbroken (Adds ∷ acts) = IsUnbroken acts
IsUnbroken (Breaks ∷ acts) = ⊥

-- none of these is a failure or a new message
abbrev pub IsUndisturbed : List Act → Type 0
IsUndisturbed [] = Unit {0}
IsUndisturbed (Ticks p packets ∷ acts) = IsUndisturbed acts
IsUndisturbed (Arrives packet answers ∷ acts) = IsUndisturbed acts
IsUndisturbed (Adds ∷ acts) = ⊥
IsUndisturbed (Breaks ∷ acts) = ⊥

-- how often p ticks
abbrev pub ticks_of : ℕ → List Act → ℕ
ticks_of p [] = 0
ticks_of p (Ticks q packets ∷ acts) = if q == p then suc (ticks_of p acts) else ticks_of p acts
ticks_of p (Arrives packet answers ∷ acts) = ticks_of p acts
ticks_of p (Adds ∷ acts) = ticks_of p acts
ticks_of p (Breaks ∷ acts) = ticks_of p acts

-- the packet arrives
abbrev pub DoesArrive : Carried → List Act → Type 0
DoesArrive packet [] = ⊥
DoesArrive packet (Ticks p packets ∷ acts) = DoesArrive packet acts
DoesArrive packet (Arrives other answers ∷ acts) = (other ≡ packet) ⊎ DoesArrive packet acts
DoesArrive packet (Adds ∷ acts) = DoesArrive packet acts
DoesArrive packet (Breaks ∷ acts) = DoesArrive packet acts

-- the packets that go from one of these nodes to another arrive
abbrev pub DoArrive : (ℕ → Bool) → List Carried → List Act → Type 0
DoArrive among packets acts =
    AllByRecursion (λ packet. (among packet.source && among packet.target) ≡ true
    → DoesArrive packet acts) packets

-- what a tick of one of these nodes sends to another arrives later
abbrev pub TicksArrive : (ℕ → Bool) → List Act → Type 0
TicksArrive among [] = Unit {0}
TicksArrive among (Ticks p packets ∷ acts) = DoArrive among packets acts × TicksArrive among acts
TicksArrive among (Arrives packet answers ∷ acts) = TicksArrive among acts
TicksArrive among (Adds ∷ acts) = TicksArrive among acts
TicksArrive among (Breaks ∷ acts) = TicksArrive among acts

-- A busy round among these nodes: clients may submit, but no node crashes and no store fails. A tick
-- resends up to NAMES_PER_TICK names. The ticks of each of the nodes are enough to resend all names
-- that it has pending at the end, with the name of a record that it holds then. What they send each
-- other at ticks arrives later. All else is free: the order, which other packets come, what is
-- refused, and receipts. At the end nodes may hold records that aren't stored.
pub record IsBusyRoundAmong (among : ℕ → Bool) (acts : List Act) (end : World) : Type 0 where
  pub unbroken : IsUnbroken acts
  pub ticks : (p : ℕ) → among p ≡ true
      → length (pend (stored end p ++ held_by (end.node p).state)) ≤ NAMES_PER_TICK * ticks_of p acts
  pub arrive : TicksArrive among acts

-- from this world on, these events are a busy round of all nodes
abbrev pub IsBusyRound : World → List Event → Type 0
IsBusyRound w events = IsBusyRoundAmong (is_node w.size.n) (acts_of w events) (after w events)

-- A round among these nodes. Nothing disturbs. A tick resends up to NAMES_PER_TICK names. The ticks
-- of each of the nodes are enough to resend all names that it has pending at the end. What they
-- send each other at ticks arrives later. At the end each of them is ready, so none holds a record
-- that isn't stored. All else is free: the order, which other packets come, what is refused, and
-- receipts.
pub record IsRoundAmong (among : ℕ → Bool) (acts : List Act) (end : World) : Type 0 where
  pub undisturbed : IsUndisturbed acts
  pub ticks : (p : ℕ) → among p ≡ true
      → length (pend (stored end p)) ≤ NAMES_PER_TICK * ticks_of p acts
  pub arrive : TicksArrive among acts
  pub settled : (p : ℕ) → among p ≡ true → (end.node p).state ≡ Ready

-- from this world on, these events are a round of all nodes
abbrev pub IsRound : World → List Event → Type 0
IsRound w events = IsRoundAmong (is_node w.size.n) (acts_of w events) (after w events)

-- each node is up: it is ready, or holds a record that isn't stored yet
abbrev pub AllUp : World → Type 0
AllUp w = (p : ℕ) → is_node w.size.n p ≡ true → is_down (w.node p).state ≡ false

-- ---- how many ticks

-- how many messages the storages of all nodes took from clients
abbrev pub taken : World → ℕ
taken w = sum_by (λ s. length (w.node s).broadcast) (nodes w.size.n)

-- each node ticks at least this often
abbrev pub TickAtLeast : ℕ → World → List Act → Type 0
TickAtLeast count w acts = (p : ℕ) → is_node w.size.n p ≡ true → count ≤ ticks_of p acts

-- ---- some nodes only

-- these are nodes that are up
abbrev pub AreUp : (ℕ → Bool) → World → Type 0
AreUp among w =
    (p : ℕ) → among p ≡ true → (is_node w.size.n p ≡ true) × (is_down (w.node p).state ≡ false)

-- one of these nodes has stored a message under the name
abbrev pub IsHeldAmong : (ℕ → Bool) → World → Label → Type 0
IsHeldAmong among w x =
    (p : ℕ) × (among p ≡ true) × (is_some (message_of (pend (stored w p)) x) ≡ true)

-- For each sender, node q has delivered at least a certain prefix of its messages. It is the longest
-- one in which each message was stored by one of these nodes in the old world. So if each of the
-- names 1 to count was stored there, the sender's names in the log begin with these.
abbrev pub HasDeliveredHeld : (ℕ → Bool) → World → World → ℕ → Type 0
HasDeliveredHeld among old new q =
    (s count : ℕ) → ((i : ℕ) → 1 ≤ i → i ≤ count → IsHeldAmong among old (name s i))
    → Begins (names s count) (part_of s (log (stored new q)))

-- each of these nodes has
abbrev pub HaveDeliveredHeld : (ℕ → Bool) → World → World → Type 0
HaveDeliveredHeld among old new = (q : ℕ) → among q ≡ true → HasDeliveredHeld among old new q

-- ---- what was stored before

-- For each sender, node q's log in the new world begins with the names of all messages that the
-- sender's storage had taken in the old world. They have these messages.
pub record HasDeliveredStored (old new : World) (q : ℕ) : Type 0 where
  pub names : (s : ℕ) → is_node old.size.n s ≡ true
      → Begins (names s (length (old.node s).broadcast)) (part_of s (log (stored new q)))
  pub messages : (s : ℕ) → is_node old.size.n s ≡ true
      → Begins (map Some (old.node s).broadcast)
      (map (message_of (pend (stored new q))) (part_of s (log (stored new q))))

-- each node that holds no record that isn't stored has delivered what was stored in the old world
abbrev pub ReadyHaveDelivered : World → World → Type 0
ReadyHaveDelivered old new =
    (q : ℕ) → is_node old.size.n q ≡ true → (new.node q).state ≡ Ready
    → HasDeliveredStored old new q

-- ---- answers

-- each answer to a packet arrives later
abbrev pub AnswersArrive : List Act → Type 0
AnswersArrive [] = Unit {0}
AnswersArrive (Ticks p packets ∷ acts) = AnswersArrive acts
AnswersArrive (Arrives packet answers ∷ acts) =
    AllByRecursion (λ answer. DoesArrive answer acts) answers × AnswersArrive acts
AnswersArrive (Adds ∷ acts) = AnswersArrive acts
AnswersArrive (Breaks ∷ acts) = AnswersArrive acts

-- no name is due at any node: each node has heard every other node's certificate of each name that
-- it has pending
abbrev pub NoneDue : World → Type 0
NoneDue w =
    (p : ℕ) → is_node w.size.n p ≡ true
    → due_of w.size.n p (w.node p).heard (rising (pend (stored w p))) ≡ []

-- no tick sends anything
abbrev pub TicksAreSilent : List Act → Type 0
TicksAreSilent [] = Unit {0}
TicksAreSilent (Ticks p packets ∷ acts) = (packets ≡ []) × TicksAreSilent acts
TicksAreSilent (Arrives packet answers ∷ acts) = TicksAreSilent acts
TicksAreSilent (Adds ∷ acts) = TicksAreSilent acts
TicksAreSilent (Breaks ∷ acts) = TicksAreSilent acts
