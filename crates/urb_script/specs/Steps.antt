-- What each command does in a scene, and its answer.
use Rattle.std.specs.Prelude.{◌≡◌, ◌⊎◌, ℕ, if◌then◌else◌, List, [], Option, Some, None, Ok, filter}
use Rattle.std.specs.Prelude.{is_some}
use Rattle.urb_names.specs.CarriedPackets.{Carried}
use Rattle.urb_names.specs.LabelsAndContents.{Content, Limits, Label}
use Rattle.urb_names.specs.Nodes.{is_node, nodes}
use Rattle.urb_names.specs.PacketGrammar.{packet_of}
use Rattle.urb_names.specs.Pairs.{message_of}
use Rattle.urb_names.specs.declared.flags.Flags.{Flags}
use Rattle.urb_names.specs.declared.refusal.Refusal.TheVariants as refusal
use Rattle.urb_stable.specs.Entries.{Entry}
use Rattle.urb_stable.specs.Fitting.{first_misfit}
use Rattle.urb_stable.specs.Records.{pend}
use Rattle.urb_stable.specs.declared.fitting.Misfit.{Misfit}
use Rattle.urb_stable.specs.declared.memory.Failure.TheVariants.{Old, New}
use Rattle.urb_world.specs.World.{World, opened, started, stored}
use Rattle.urb_world.specs.Step.{Event, step}
use Rattle.urb_world.specs.Step as event
use Rattle.urb_world.specs.Scenes.{Scene, flags_with, keeping, or_nothing, receipt}
use Rattle.urb_script.specs.Commands.{Command, Group, Submit, Stored, Fail, Crash, Restart, Arrive}
use Rattle.urb_script.specs.Commands.{ArriveFlagged, Raw, Tick, Log, Held, Reopen}
use Rattle.urb_script.specs.Texts.{told_text, reply_text, log_text, held_text}
use Rattle.urb_script.specs.declared.answer_words.FixedAnswer.TheVariants as told

-- the scene of a new group
abbrev pub new_scene : Limits → Scene
new_scene limits = record { world = started limits; storage = λ p. [] }

-- an event happens, after which storage holds this; the answer is that of its reply
abbrev pub happens_with : (ℕ → List Entry) → Event → Scene → List ℕ × Scene
happens_with storage what scene = (
  reply_text (step scene.world what).0,
  record { world = (step scene.world what).1; storage = storage },
)

-- an event that leaves storage as it is
abbrev pub happens : Event → Scene → List ℕ × Scene
happens what scene = happens_with scene.storage what scene

-- what q has stored under the name, if q is a node
abbrev pub found_at : World → ℕ → Label → Option Content
found_at w q x = if is_node w.size.n q then message_of (pend (stored w q)) x else None

-- The packet from q to p of what q has stored under the name. It has these flags or no flags, or
-- flags 0 if the message is too long for a packet without flags. If q has stored nothing there, the
-- packet has a message that nobody sent.
abbrev pub carried : World → ℕ → ℕ → Label → Option Flags → Carried
carried w q p x flags =
    let m = or_nothing (found_at w q x) in
    record { source = q; target = p; name = x; message = m; flags = flags_with flags m }

-- the answer if no node has the number
abbrev pub bad_node : List ℕ
bad_node = told_text (told.Refused refusal.BadNode)

-- the nodes that have the name stored, in rising order
abbrev pub holders : World → Label → List ℕ
holders w x = filter (λ p. is_some (message_of (pend (stored w p)) x)) (nodes w.size.n)

-- the answer that shows p's log
abbrev pub shown_log : World → ℕ → List ℕ
shown_log w p = if is_node w.size.n p then log_text p (stored w p) else bad_node

-- the answer that shows which nodes have a name stored
abbrev pub shown_holders : World → Label → List ℕ
shown_holders w x = if is_node w.size.n x.sender then held_text x (holders w x) else bad_node

-- The process stops, and a group is opened from what storage holds. Held records and counts are
-- lost. Lists that don't fit together are refused with their first misfit.
abbrev pub reopens : Option Misfit → Scene → List ℕ × Scene
reopens None scene = (
  told_text told.Opened,
  record
      { world = opened scene.world.size scene.storage; storage = scene.storage },
)
reopens (Some misfit) scene =
    (told_text (told.Refused (refusal.Inconsistent misfit.rule misfit.node misfit.name)), scene)

-- The answer to a command in a scene, and the scene after it. A stored record is added to what its
-- node's storage holds. A record whose store failed and kept it is added too. A restart's image is
-- what the storage holds.
abbrev pub answer : Scene → Command → List ℕ × Scene
answer scene (Group limits) = ([], scene)
answer scene (Submit p client number payload) =
    happens (event.Submit p (record { client = client; number = number; payload = payload })) scene
answer scene (Stored p) =
    happens_with (keeping p scene) (receipt p (scene.world.node p) (scene.world.node p).state) scene
answer scene (Fail p Old) = happens (event.Fail p) scene
answer scene (Fail p New) = happens_with (keeping p scene) (event.Fail p) scene
answer scene (Crash p) = happens (event.Crash p) scene
answer scene (Restart p) = happens (event.Restart p (scene.storage p)) scene
answer scene Reopen = reopens (first_misfit scene.world.size scene.storage) scene
answer scene (Arrive q p x) = happens (event.Arrive p (Ok (carried scene.world q p x None))) scene
answer scene (ArriveFlagged q p x flags) =
    happens (event.Arrive p (Ok (carried scene.world q p x (Some flags)))) scene
answer scene (Raw p bytes) = happens (event.Arrive p (packet_of bytes)) scene
answer scene (Tick p) = happens (event.Tick p) scene
answer scene (Log p) = (shown_log scene.world p, scene)
answer scene (Held x) = (shown_holders scene.world x, scene)

-- any command but the first line's, which makes the group
abbrev pub IsLater : Command → Type 0
IsLater (Group limits) = ⊥
IsLater asked = Unit {0}

-- whether a command may come now: the first line makes the group, and no later line does
abbrev pub MayCome : Option Scene → Command → Type 0
MayCome None (Group limits) = Unit {0}
MayCome None asked = ⊥
MayCome (Some scene) asked = IsLater asked

-- from the scene so far, a command that may come is answered with this text and leads to this scene
abbrev pub Plays : Option Scene → Command → List ℕ → Scene → Type 0
Plays None (Group limits) text new =
    (text ≡ told_text (told.Grouped limits)) × (new ≡ new_scene limits)
Plays None asked text new = ⊥
Plays (Some scene) (Group limits) text new = ⊥
Plays (Some scene) asked text new = (text, new) ≡ answer scene asked

-- what a store may do instead if memory was refused: it fails, with the record kept or not
abbrev pub IsFailureOf : Command → Command → Type 0
IsFailureOf (Stored p) played = (played ≡ Fail p Old) ⊎ (played ≡ Fail p New)
IsFailureOf (Fail p New) played = played ≡ Fail p Old
IsFailureOf asked played = ⊥

-- the same, or what a store may do because memory was refused
abbrev pub Takes : Option Scene → Command → List ℕ → Scene → Type 0
Takes old asked text new =
    Plays old asked text new ⊎ ((played : Command) × IsFailureOf asked played
    × Plays old played text new)
