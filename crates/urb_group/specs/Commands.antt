-- What a reply says, and which event a command is.
use Rattle.std.specs.Prelude.{Bool, List, false, true, ℕ, ◌∷◌, ◌≡◌, ◌⊎◌, []}
use Rattle.urb_names.specs.PacketGrammar.{packet_of}
use Rattle.urb_names.specs.declared.refusal.Refusal.TheVariants as refusal
use Rattle.urb_stable.specs.Entries.{Entry}
use Rattle.urb_stable.specs.StableStorage.{refusal_of}
use Rattle.urb_stable.specs.declared.stable.StoreFault.{StoreFault}
use Rattle.urb_node.specs.Replies as told
use Rattle.urb_world.specs.Step.{Arrive, Commit, Crash, Event, Fail, Restart, Submit, Tick}
use Rattle.urb_group.specs.declared.command.Command.{Command}
use Rattle.urb_group.specs.declared.command.Command.TheVariants as command
use Rattle.urb_group.specs.declared.reply.Reply.{Reply}
use Rattle.urb_group.specs.declared.reply.Reply.TheVariants as reply

-- what the reply says
abbrev pub reply_of : {A : Type 0} → Reply A → told.Reply
reply_of (reply.Drafted x position) = told.Drafted x position
reply_of (reply.Same answer) = told.Same answer
reply_of (reply.Stored done) = told.Stored done
reply_of (reply.Sent packets) = told.Sent packets
reply_of (reply.WentDown p) = told.WentDown p
reply_of (reply.Up p) = told.Up p
reply_of (reply.Refused r) = told.Refused r

-- whether it says that memory was refused to the command
abbrev pub is_no_memory : {A : Type 0} → Reply A → Bool
is_no_memory (reply.Refused refusal.NoMemory) = true
is_no_memory _ = false

-- The event belongs to this command. For a Store, it depends on the store's answer. For a restart,
-- it has some image.
abbrev pub IsEventOf : {A : Type 0} → Command A → Event → Type 0
IsEventOf (command.Submit p client number payload) event =
    event ≡ Submit p (record { client = client; number = number; payload = payload })
IsEventOf (command.Arrive p bytes) event = event ≡ Arrive p (packet_of bytes.items)
IsEventOf (command.Tick p) event = event ≡ Tick p
IsEventOf (command.Store p) event =
    ((position : ℕ) × (entry : Entry) × (event ≡ Commit p position entry)) ⊎ (event ≡ Fail p)
IsEventOf (command.Crash p) event = event ≡ Crash p
IsEventOf (command.Restart p) event = (image : List Entry) × (event ≡ Restart p image)

-- a restart whose store returned a fault: this is no event, and it is refused with that fault
abbrev pub IsUnread : {A : Type 0} → Command A → told.Reply → Type 0
IsUnread (command.Restart p) reply =
    (fault : StoreFault) × (reply ≡ told.Refused (refusal_of fault))
IsUnread _ reply = ⊥

-- The first commands, one for each reply, are these events in order, each with its reply. Commands
-- that are no event are left out.
pub data AreEvents {A : Type 0} : List (Command A) → List told.Reply → List Event → List told.Reply
    → Type 0 where
  At_end : (commands : List (Command A)) → AreEvents commands [] [] []
  By_event : (command : Command A) (commands : List (Command A)) (reply : told.Reply)
      (replies : List told.Reply) (event : Event) (events : List Event) (seen : List told.Reply)
      → IsEventOf command event → AreEvents commands replies events seen
      → AreEvents (command ∷ commands) (reply ∷ replies) (event ∷ events) (reply ∷ seen)
  By_none : (command : Command A) (commands : List (Command A)) (reply : told.Reply)
      (replies : List told.Reply) (events : List Event) (seen : List told.Reply)
      → IsUnread command reply → AreEvents commands replies events seen
      → AreEvents (command ∷ commands) (reply ∷ replies) events seen
