-- The texts of answers.
use Rattle.std.specs.Prelude.{ℕ, List, [], ◌∷◌, ◌++◌, codes, flat_map, length}
use Rattle.std.specs.Prelude.{if◌then◌else◌, Option, Some, None}
use Rattle.std.specs.Fmt.{decimal}
use Rattle.urb_names.specs.LabelsAndContents.{Label, Content}
use Rattle.urb_names.specs.declared.refusal.PacketFault.{PacketFault}
use Rattle.urb_names.specs.declared.refusal.PacketFault.TheVariants as fault
use Rattle.urb_names.specs.declared.refusal.Rule.{Rule}
use Rattle.urb_names.specs.declared.refusal.Rule.TheVariants as rule
use Rattle.urb_names.specs.declared.refusal.Refusal.{Refusal}
use Rattle.urb_names.specs.declared.refusal.Refusal.TheVariants as refusal
use Rattle.urb_names.specs.CarriedPackets.{Carried}
use Rattle.urb_names.specs.PacketGrammar.{flags_number}
use Rattle.urb_names.specs.declared.flags.Flags.{Flags}
use Rattle.urb_node.specs.declared.answer.Answer.TheVariants as answer
use Rattle.urb_node.specs.Replies.{Done, Reply}
use Rattle.urb_node.specs.Replies as reply
use Rattle.urb_stable.specs.Entries.{Entry}
use Rattle.urb_stable.specs.DeliveredLogs.{entries}
use Rattle.urb_script.specs.ValueWords.{payload_word, name_text}
use Rattle.urb_script.specs.declared.answer_words.FixedAnswer.{FixedAnswer}
use Rattle.urb_script.specs.declared.answer_words.FixedAnswer.TheVariants as told

-- a fault of a packet's bytes, as a word
abbrev pub fault_word : PacketFault → List ℕ
fault_word fault.Short = codes "short"
fault_word fault.Magic = codes "magic"
fault_word fault.Version = codes "version"
fault_word fault.Length = codes "length"
fault_word fault.Range = codes "range"

-- a rule of fitting images, as a lower-case letter
abbrev pub rule_letter : Rule → List ℕ
rule_letter rule.A = codes "a"
rule_letter rule.B = codes "b"
rule_letter rule.C = codes "c"
rule_letter rule.D = codes "d"

-- The words of a refusal in an answer. Three refusals have no words, since no answer gives them.
-- Want of memory ends the run, a bad line is answered in its own form, and frames come only from
-- clients.
abbrev pub refusal_words : Refusal → List ℕ
refusal_words refusal.NoMemory = []
refusal_words refusal.BadNode = codes "badnode"
refusal_words refusal.Down = codes "down"
refusal_words refusal.Busy = codes "busy"
refusal_words refusal.TooLong = codes "toolong"
refusal_words refusal.Conflict = codes "conflict"
refusal_words (refusal.Gap expected) = codes "gap " ++ decimal expected
refusal_words refusal.Full = codes "full"
refusal_words refusal.Forged = codes "forged"
refusal_words (refusal.Packet fault) = codes "packet " ++ fault_word fault
refusal_words refusal.Stale = codes "stale"
refusal_words refusal.NotDown = codes "notdown"
refusal_words refusal.BadImage = codes "badimage"
refusal_words (refusal.Inconsistent rule node name) =
    codes "inconsistent " ++ (rule_letter rule ++ (32 ∷ (decimal node ++ (32 ∷ name_text name))))
refusal_words refusal.Device = codes "device"
refusal_words (refusal.Place next) = codes "place " ++ decimal next
refusal_words (refusal.BadRow place) = codes "badrow " ++ decimal place
refusal_words (refusal.BadLine line) = []
refusal_words (refusal.Frame code) = []

-- the answer lines in fixed words, without their LF
abbrev pub told_text : FixedAnswer → List ℕ
told_text (told.Grouped limits) = codes "group " ++ (decimal limits.n ++ (32 ∷ decimal limits.cap))
told_text (told.Drafted x position) =
    codes "draft " ++ (name_text x ++ (codes " at " ++ decimal position))
told_text (told.Accepted x) = codes "accepted " ++ name_text x
told_text (told.Noted x) = codes "noted " ++ name_text x
told_text (told.Again x) = codes "again " ++ name_text x
told_text (told.Answered x) = codes "answered " ++ name_text x
told_text (told.Stored x sent released) =
    codes "accepted " ++ (name_text x
    ++ (codes " sent " ++ (decimal sent ++ (codes " released " ++ decimal released))))
told_text (told.Taken x sent released) =
    codes "taken " ++ (name_text x
    ++ (codes " sent " ++ (decimal sent ++ (codes " released " ++ decimal released))))
told_text (told.Down p) = codes "down " ++ decimal p
told_text (told.Up p) = codes "up " ++ decimal p
told_text told.Opened = codes "open"
told_text (told.Refused why) = codes "refused " ++ refusal_words why

-- a packet that is sent: a space, its target, a colon, and its name
abbrev pub packet_text : Carried → List ℕ
packet_text packet = 32 ∷ (decimal packet.target ++ (58 ∷ name_text packet.name))

-- the flags of a packet, by their number; nothing if it has no flags
abbrev pub flags_text : Option Flags → List ℕ
flags_text None = []
flags_text (Some flags) = codes " flags " ++ decimal (flags_number flags)

-- a packet that is sent in answer: its target, and its flags
abbrev pub answer_text : Carried → List ℕ
answer_text packet = codes " to " ++ (decimal packet.target ++ flags_text packet.flags)

-- the answer when a record is stored: `accepted` if it is a message of the node's own
abbrev pub done_text : Done → List ℕ
done_text done =
    if done.accepted then told_text (told.Stored done.name (length done.sent) done.released)
    else told_text (told.Taken done.name (length done.sent) done.released)

-- the answer line of a reply
abbrev pub reply_text : Reply → List ℕ
reply_text (reply.Drafted x position) = told_text (told.Drafted x position)
reply_text (reply.Same (answer.Accepted x)) = told_text (told.Accepted x)
reply_text (reply.Same (answer.Noted x)) = told_text (told.Noted x)
reply_text (reply.Same (answer.Again x)) = told_text (told.Again x)
reply_text (reply.Same (answer.Answered x packets)) =
    told_text (told.Answered x) ++ flat_map answer_text packets
reply_text (reply.Stored done) = done_text done
reply_text (reply.Sent packets) = codes "sent" ++ flat_map packet_text packets
reply_text (reply.WentDown p) = told_text (told.Down p)
reply_text (reply.Up p) = told_text (told.Up p)
reply_text (reply.Refused why) = told_text (told.Refused why)

-- the payload of a message as a word
abbrev pub message_word : Option Content → List ℕ
message_word None = []
message_word (Some m) = payload_word m.payload

-- an entry of a log: a space, the name, =, and the payload
abbrev pub entry_text : Label × Option Content → List ℕ
entry_text entry =
    32 ∷ (decimal entry.0.sender ++ (46 ∷ (decimal entry.0.seq ++ (61 ∷ message_word entry.1))))

-- the answer that shows p's log: its entries in the order of their release
abbrev pub log_text : ℕ → List Entry → List ℕ
log_text p records = codes "log " ++ (decimal p ++ (58 ∷ flat_map entry_text (entries records)))

-- the answer that shows which of the nodes have a name stored
abbrev pub held_text : Label → List ℕ → List ℕ
held_text x nodes = codes "held " ++ (name_text x ++ (58 ∷ flat_map (λ q. 32 ∷ decimal q) nodes))
