-- The effect of each call of a node: the definition's outcome for every node that is shown.
use Rattle.std.specs.Prelude.{◌≡◌, ◌≤◌, ℕ, Bool, List, length, Option, Result, Ok, Err}
use Rattle.urb_names.specs.declared.refusal.NoMemory.{NoMemory}
use Rattle.urb_names.specs.LabelsAndContents.{Label, Content}
use Rattle.urb_names.specs.CarriedPackets.{AreFrom, Carried}
use Rattle.urb_names.specs.Names.{has_name}
use Rattle.urb_names.specs.Pairs.{has_pair, message_of, next_number}
use Rattle.urb_names.specs.declared.flags.Flags.{Flags}
use Rattle.urb_names.specs.declared.refusal.Refusal.{Refusal}
use Rattle.urb_names.specs.declared.refusal.Refusal.TheVariants as refusal
use Rattle.urb_stable.specs.Entries.{Entry, name_of}
use Rattle.urb_stable.specs.DeliveredLogs.{log}
use Rattle.urb_stable.specs.PlacedRecords.{Placed}
use Rattle.urb_stable.specs.Records.{cert, pend}
use Rattle.urb_node.specs.declared.answer.Answer.TheVariants as answer
use Rattle.urb_node.specs.declared.step.Step.{Step}
use Rattle.urb_node.specs.declared.step.Step.TheVariants as step
use Rattle.urb_node.specs.RecordAdmission.{MayArrive}
use Rattle.urb_node.specs.Part.{Node}
use Rattle.urb_node.specs.Replies.{Done, Reply, Drafted, Same, Stored, Sent, WentDown, Up, Refused}
use Rattle.urb_node.specs.Replies.{packets_with}
use Rattle.urb_node.specs.Steps.{submits, arrives, commits, fails, crashes, restarts, ticks}
use Rattle.urb_node.specs.NodeMemories.{Memory, Holding, Fallen, ShowsReady, ShowsStoring, ShowsDown}
use Rattle.urb_node.specs.NodeMemories.{IsSameNode, draft_of}

-- Which replies a refused allocation may replace. An event may be refused for memory if it drafts,
-- counts an acknowledgement, answers a packet or sends packets. So may a restart, which allocates
-- what judging its image needs before it judges. These may not: a repeat, an Again, a receipt, a
-- failed store, a crash, and an event that is refused for another reason.
abbrev pub MayGrow : Reply → Type 0
MayGrow (Drafted x position) = Unit {0}
MayGrow (Same (answer.Accepted x)) = ⊥
MayGrow (Same (answer.Noted x)) = Unit {0}
MayGrow (Same (answer.Again x)) = ⊥
MayGrow (Same (answer.Answered x packets)) = Unit {0}
MayGrow (Stored done) = ⊥
MayGrow (Sent packets) = Unit {0}
MayGrow (WentDown p) = ⊥
MayGrow (Up p) = Unit {0}
MayGrow (Refused refusal.BadImage) = Unit {0}
MayGrow (Refused r) = ⊥

-- the refusal is the reply's, or NoMemory if memory may be refused
abbrev pub IsRefusedAs : Reply → Refusal → Type 0
IsRefusedAs reply refusal.NoMemory = MayGrow reply
IsRefusedAs reply r = reply ≡ Refused r

-- The result of a ready node's call with this outcome. The node stays ready with the outcome's
-- answer, or holds the outcome's draft. Or the call is refused as the outcome is, and the node is
-- unchanged.
abbrev pub LeadsTo : {A : Type 0} → Reply × Node → Memory → Result (Step A) (Memory × Refusal)
    → Type 0
LeadsTo outcome old (Ok (step.Same ready told)) =
    (outcome.0 ≡ Same told) × ShowsReady ready outcome.1 × IsSameNode old ready
LeadsTo outcome old (Ok (step.Store storing draft)) =
    (outcome.0 ≡ Drafted (name_of draft.entry) draft.pos) × ShowsStoring storing outcome.1
    × IsSameNode old storing.memory × (draft ≡ draft_of storing)
LeadsTo outcome old (Err e) = IsRefusedAs outcome.0 e.1 × (e.0 ≡ old)

-- a client's message: for every node that is shown, the result is what the definition says about a
-- submit
abbrev pub Submits : {A : Type 0} → Memory → Content → Result (Step A) (Memory × Refusal) → Type 0
Submits old m result =
    (node : Node) → ShowsReady old node → LeadsTo (submits old.limits old.node m node) old result

-- a truthful packet from q: the result is what the definition says about an arrival
abbrev pub Arrives : {A : Type 0} → Memory → ℕ → Label → Content → Option Flags
    → Result (Step A) (Memory × Refusal) → Type 0
Arrives old q x m flags result =
    (node : Node) → ShowsReady old node
    → LeadsTo (arrives old.limits old.node q x m flags node) old result

-- A packet that may be given to a node. It is for this node, comes from a node of the group, and
-- its pair may come to this node.
pub record IsForNode (a : Memory) (packet : Carried) : Type 0 where
  pub target : packet.target ≡ a.node
  pub source : packet.source ≤ a.limits.n
  pub pair : MayArrive a.limits a.node a.pairs packet.name packet.message

-- a receipt: accepted exactly if it is the held draft's, and then the result is what the definition
-- says about a commit
abbrev pub Confirms : Holding → Placed → Result (Memory × Done) (Holding × Placed) → Type 0
Confirms h receipt (Ok r) =
    (receipt ≡ draft_of h) × IsSameNode h.memory r.0
    × ((node : Node) → ShowsStoring h node
    → ((commits h.memory.limits.n h.memory.node receipt.pos receipt.entry node node.state).0
    ≡ Stored r.1)
    × ShowsReady r.0 (commits h.memory.limits.n h.memory.node receipt.pos receipt.entry node
    node.state).1)
Confirms h receipt (Err e) = ¬ (receipt ≡ draft_of h) × (e.0 ≡ h) × (e.1 ≡ receipt)

-- the store of the held record failed: the result is what the definition says
abbrev pub Fails : Holding → Fallen → Type 0
Fails h result =
    IsSameNode h.memory result.memory
    × ((node : Node) → ShowsStoring h node
    → ((fails h.memory.node node node.state).0 ≡ WentDown h.memory.node)
    × ShowsDown result (fails h.memory.node node node.state).1)

-- a crash, in a state in which the memory shows a node: the result is what the definition says
abbrev pub Crashes : (Node → Type 0) → Memory → Fallen → Type 0
Crashes Shows old result =
    IsSameNode old result.memory
    × ((node : Node) → Shows node
    → ((crashes old.node node).0 ≡ WentDown old.node)
    × ShowsDown result (crashes old.node node).1)

-- a tick: the result is what the definition says; if memory is refused, nothing changes
abbrev pub Ticks : Memory → Memory × Result (List Carried) NoMemory → Type 0
Ticks old (new, Ok packets) =
    IsSameNode old new × ((node : Node) → ShowsReady old node
    → ((ticks old.limits.n old.node node).0 ≡ Sent packets)
    × ShowsReady new (ticks old.limits.n old.node node).1)
Ticks old (new, Err e) = new ≡ old

-- Each of these packets has the node as its source, and carries a pair in the stored records of
-- every node that is shown. If it says that the node has stored a certificate of the name, the node
-- has.
abbrev pub AreOfStored : (Node → Type 0) → ℕ → List Carried → Type 0
AreOfStored Shows p packets =
    (node : Node) → Shows node → AreFrom p (pend node.records) (cert node.records) packets

-- A step's immediate answer carries pairs in memory, and has the node as its source.
abbrev pub AnswersFrom : {A : Type 0} → Step A → Type 0
AnswersFrom (step.Same ready told) =
    AreFrom ready.node ready.pairs ready.certified (packets_with told)
AnswersFrom (step.Store storing draft) = Unit {0}

-- a step's immediate answer carries stored pairs of every node that is shown, and has the node as
-- its source
abbrev pub AnswersOfStored : {A : Type 0} → Step A → Type 0
AnswersOfStored (step.Same ready told) =
    AreOfStored (ShowsReady ready) ready.node (packets_with told)
AnswersOfStored (step.Store storing draft) = Unit {0}

-- a restart with this image: the result is what the definition says
abbrev pub Restarts : Fallen → List Entry → Result Memory (Fallen × Refusal) → Type 0
Restarts old image (Ok ready) =
    IsSameNode old.memory ready
    × ((node : Node) → ShowsDown old node
    → ((restarts old.memory.node image node node.state).0 ≡ Up old.memory.node)
    × ShowsReady ready (restarts old.memory.node image node node.state).1)
Restarts old image (Err e) =
    ((node : Node) → ShowsDown old node
    → IsRefusedAs (restarts old.memory.node image node node.state).0 e.1) × (e.0 ≡ old)

-- The next six definitions are queries about a node's stored records, for every node that is
-- shown. The first: whether the pair is pending.
abbrev pub Holds : (Node → Type 0) → Label → Content → Bool → Type 0
Holds Shows x m result = (node : Node) → Shows node → result ≡ has_pair (pend node.records) x m

-- whether the node has stored a certificate of the name
abbrev pub IsCertified : (Node → Type 0) → Label → Bool → Type 0
IsCertified Shows x result = (node : Node) → Shows node → result ≡ has_name (cert node.records) x

-- the message that the node has stored under this name, if it has one
abbrev pub FindsMessage : (Node → Type 0) → Label → Option Content → Type 0
FindsMessage Shows x result = (node : Node) → Shows node → result ≡ message_of (pend node.records) x

-- the node's log
abbrev pub TellsLog : (Node → Type 0) → List Label → Type 0
TellsLog Shows result = (node : Node) → Shows node → result ≡ log node.records

-- how many messages the node has broadcast
abbrev pub CountsOwn : (Node → Type 0) → ℕ → Type 0
CountsOwn Shows result = (node : Node) → Shows node → result ≡ length node.broadcast

-- the number that a client's next message at the node must have
abbrev pub TellsNext : (Node → Type 0) → ℕ → ℕ → Type 0
TellsNext Shows client result =
    (node : Node) → Shows node → result ≡ next_number client node.broadcast
