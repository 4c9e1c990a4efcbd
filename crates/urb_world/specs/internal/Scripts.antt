-- Words of the worked scripts: each line beside its answer.
use Prim.Native.String.{String}
use Rattle.std.specs.Prelude.{Bool, Err, List, None, Ok, Option, Some, [], codes, false, filter}
use Rattle.std.specs.Prelude.{is_some, length, map, true, ℕ, ◌∷◌, ◌≡◌}
use Rattle.urb_world.specs.Step.{Arrive, Commit, Crash, Event, Fail, Restart, Submit, Tick, step}
use Rattle.urb_world.specs.World.{opened, started, stored}
use Rattle.urb_names.specs.CarriedPackets.{Carried}
use Rattle.urb_names.specs.Names.{name}
use Rattle.urb_names.specs.LabelsAndContents.{Content, Label, Limits}
use Rattle.urb_names.specs.Nodes.{nodes}
use Rattle.urb_names.specs.Pairs.{message_of}
use Rattle.urb_names.specs.declared.flags.Flags.{Flags}
use Rattle.urb_names.specs.declared.refusal.PacketFault.{PacketFault}
use Rattle.urb_names.specs.declared.refusal.Refusal.{Refusal}
use Rattle.urb_names.specs.declared.refusal.Refusal.TheVariants as refusal
use Rattle.urb_node.specs.Part.{Node}
use Rattle.urb_node.specs.Replies.{Drafted, Refused, Reply, Same, Sent, Stored, Up, WentDown}
use Rattle.urb_node.specs.declared.answer.Answer.TheVariants.{Accepted, Again, Answered, Noted}
use Rattle.urb_node.specs.declared.answer.Answer.{Answer}
use Rattle.urb_stable.specs.Entries.{Entry}
use Rattle.urb_stable.specs.Fitting.{first_misfit}
use Rattle.urb_stable.specs.DeliveredLogs.{entries}
use Rattle.urb_stable.specs.Records.{pend}
use Rattle.urb_stable.specs.declared.fitting.Misfit.{Misfit}
use Rattle.urb_world.specs.Scenes.{Scene, flags_of, flags_with, keeping, or_nothing, receipt}

-- ---- answers

-- the answer to a line
pub data LineAnswer : Type 0 where
  Drafts : (x : Label) (position : ℕ) → LineAnswer
  Accepts : (x : Label) (sent released : ℕ) → LineAnswer  -- a record of an own message is stored: how many packets went out, and how many names were released
  Takes : (x : Label) (sent released : ℕ) → LineAnswer  -- any other record is stored
  Answers : (told : Answer (List (ℕ × Option Flags))) → LineAnswer  -- a packet in answer by its target and its flags
  Sends : (packets : List (ℕ × Label)) → LineAnswer  -- each by its target and its name
  Goes_down : (p : ℕ) → LineAnswer
  Comes_up : (p : ℕ) → LineAnswer
  Refuses : (refusal : Refusal) → LineAnswer
  Opens : LineAnswer
  Logs : (entries : List (Label × Option Content)) → LineAnswer
  Holds : (nodes : List ℕ) → LineAnswer
  Is : (node : Node) → LineAnswer

-- a submit is accepted under this name
abbrev pub accepted : ℕ → ℕ → LineAnswer
accepted sender number = Answers (Accepted (name sender number))

-- an acknowledgement of this name is counted
abbrev pub noted : ℕ → ℕ → LineAnswer
noted sender number = Answers (Noted (name sender number))

-- a packet said nothing new of this name
abbrev pub again : ℕ → ℕ → LineAnswer
again sender number = Answers (Again (name sender number))

-- this name is certified, and a packet with these flags says so to q
abbrev pub answered : ℕ → ℕ → ℕ → ℕ → LineAnswer
answered sender number q flags =
    Answers (Answered (name sender number) ((q, Some (flags_of flags)) ∷ []))

-- the node went down
abbrev pub down : ℕ → LineAnswer
down p = Goes_down p

-- the node is up again
abbrev pub up : ℕ → LineAnswer
up p = Comes_up p

-- a stored record, in short: one of the node's own, or another
abbrev pub told_stored : Bool → Label → ℕ → ℕ → LineAnswer
told_stored true x sent released = Accepts x sent released
told_stored false x sent released = Takes x sent released

-- an answer, in short
abbrev pub told_answer : Answer (List Carried) → Answer (List (ℕ × Option Flags))
told_answer (Accepted x) = Accepted x
told_answer (Noted x) = Noted x
told_answer (Again x) = Again x
told_answer (Answered x packets) =
    Answered x (map (λ packet. (packet.target, packet.flags)) packets)

-- a reply, in short
abbrev pub told : Reply → LineAnswer
told (Drafted x position) = Drafts x position
told (Same answer) = Answers (told_answer answer)
told (Stored done) = told_stored done.accepted done.name (length done.sent) done.released
told (Sent packets) = Sends (map (λ packet. (packet.target, packet.name)) packets)
told (WentDown p) = Goes_down p
told (Up p) = Comes_up p
told (Refused refusal) = Refuses refusal

-- ---- lines

-- a line: its answer in a scene, and the scene after it
abbrev pub Line : Type 0
Line = Scene → LineAnswer × Scene

-- a new group of n nodes; each node may broadcast cap messages
abbrev pub new_group : ℕ → ℕ → Scene
new_group n cap = record { world = started (record { n = n; cap = cap }); storage = λ p. [] }

-- an event, after which storage holds this
abbrev pub happens_with : (ℕ → List Entry) → Event → Line
happens_with storage event scene =
    let outcome =
    step scene.world event in (told outcome.0, record { world = outcome.1; storage = storage })

-- an event that leaves storage as it was
abbrev pub happens : Event → Line
happens event scene = happens_with scene.storage event scene

-- a message, its payload by ASCII letters
abbrev pub message : ℕ → ℕ → String → Content
message client number letters = record { client = client; number = number; payload = codes letters }

-- a submit of this message at p
abbrev pub submit : ℕ → Content → Line
submit p m = happens (Submit p m)

-- p's storage takes the held record
abbrev pub store : ℕ → Line
store p scene =
    happens_with (keeping p scene) (receipt p (scene.world.node p) (scene.world.node p).state) scene

-- p's storage fails, and has kept nothing
abbrev pub fail_old : ℕ → Line
fail_old p = happens (Fail p)

-- p's storage fails, and has kept the record
abbrev pub fail_new : ℕ → Line
fail_new p scene = happens_with (keeping p scene) (Fail p) scene

-- a crash of p
abbrev pub crash : ℕ → Line
crash p = happens (Crash p)

-- a restart with what p's storage holds
abbrev pub restart : ℕ → Line
restart p scene = happens (Restart p (scene.storage p)) scene

-- a tick at p
abbrev pub tick : ℕ → Line
tick p = happens (Tick p)

-- What q has stored under the name comes to p, with these flags. If q has stored no message, one
-- comes that q doesn't hold.
abbrev pub arrive_with : Option Flags → ℕ → ℕ → ℕ → ℕ → Line
arrive_with flags q p sender number scene =
    let m = or_nothing (message_of (pend (stored scene.world q)) (name sender number)) in
    happens (Arrive p (Ok (record {
      source = q;
      target = p;
      name = name sender number;
      message = m;
      flags =
          flags_with flags m;
    }))) scene

-- What q has stored under the name comes to p, in a packet of version one. If the payload is too
-- long for that, it comes in one of version two with flags 0.
abbrev pub arrive : ℕ → ℕ → ℕ → ℕ → Line
arrive q p sender number = arrive_with None q p sender number

-- what q has stored under the name comes to p, in a packet of version two with the flags of this
-- number
abbrev pub arrive2 : ℕ → ℕ → ℕ → ℕ → ℕ → Line
arrive2 q p sender number flags = arrive_with (Some (flags_of flags)) q p sender number

-- the group is opened, or the first misfit is given
abbrev pub told_open : Option Misfit → Scene → LineAnswer × Scene
told_open None scene = (Opens, record scene { world = opened scene.world.size scene.storage })
told_open (Some misfit) scene =
    (Refuses (refusal.Inconsistent misfit.rule misfit.node misfit.name), scene)

-- the process stops, and opens the group with what storage holds
abbrev pub reopen : Line
reopen scene = told_open (first_misfit scene.world.size scene.storage) scene

-- p's log, each name with its message
abbrev pub log_of : ℕ → Line
log_of p scene = (Logs (entries (stored scene.world p)), scene)

-- the nodes that have the name stored
abbrev pub held : ℕ → ℕ → Line
held sender number scene = (
  Holds (filter (λ p. is_some (message_of (pend (stored scene.world p)) (name sender number)))
      (nodes scene.world.size.n)),
  scene,
)

-- ---- lines that no storage and no link would give

-- a receipt for any record at any position
abbrev pub commit : ℕ → ℕ → Entry → Line
commit p position entry = happens (Commit p position entry)

-- a restart with any image
abbrev pub restart_with : ℕ → List Entry → Line
restart_with p image = happens (Restart p image)

-- any packet comes to p
abbrev pub bring : ℕ → Carried → Line
bring p packet = happens (Arrive p (Ok packet))

-- bytes that are no packet come to p
abbrev pub bring_bytes : ℕ → PacketFault → Line
bring_bytes p fault = happens (Arrive p (Err fault))

-- all of p's part of the world
abbrev pub look_at : ℕ → Line
look_at p scene = (Is (scene.world.node p), scene)

-- ---- whole scripts

infix 70 ◌⇒◌
-- a line and its answer
abbrev pub ◌⇒◌ : Line → LineAnswer → Line × LineAnswer
line ⇒ answer = (line, answer)

-- the answers to these lines, one after the other
abbrev pub answers : Scene → List Line → List LineAnswer
answers scene [] = []
answers scene (line ∷ lines) = let outcome = line scene in outcome.0 ∷ answers outcome.1 lines

-- from this scene on, each line has this answer
abbrev pub PlaysFrom : Scene → List (Line × LineAnswer) → Type 0
PlaysFrom scene script = answers scene (map (λ row. row.0) script) ≡ map (λ row. row.1) script

-- in a new group of n nodes and this cap, each line has this answer
abbrev pub Plays : ℕ → ℕ → List (Line × LineAnswer) → Type 0
Plays n cap script = PlaysFrom (new_group n cap) script

-- in the group that these images of the nodes 1, 2, .. open, each line has this answer
abbrev pub PlaysOpened : Limits → (ℕ → List Entry) → List (Line × LineAnswer) → Type 0
PlaysOpened size images script =
    PlaysFrom (record { world = opened size images; storage = images }) script
