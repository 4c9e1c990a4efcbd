-- The outcome of a call at a ready node, computed from its memory, with the checks in their order.
use Rattle.std.specs.Prelude.{ℕ, Bool, suc, not, false, ◌==◌, nat_lt, bytes_eq, if◌then◌else◌}
use Rattle.std.specs.Prelude.{length, List, [], ◌∷◌, Option, None, Some}
use Rattle.urb_names.specs.LabelsAndContents.{Label, Content}
use Rattle.urb_names.specs.Names.{name, has_name}
use Rattle.urb_names.specs.Nodes.{is_majority, majority_passes}
use Rattle.urb_names.specs.Pairs.{message_of, own, next_number}
use Rattle.urb_names.specs.Acknowledgements.{acked, with_ack}
use Rattle.urb_names.specs.CarriedPackets.{Carried, says_certified}
use Rattle.urb_names.specs.declared.flags.Flags.{Flags}
use Rattle.urb_names.specs.declared.limits.TheConstants.{MAX_PAYLOAD}
use Rattle.urb_names.specs.declared.refusal.Refusal.{Refusal}
use Rattle.urb_names.specs.declared.refusal.Refusal.TheVariants as refusal
use Rattle.urb_stable.specs.Entries.{Entry}
use Rattle.urb_stable.specs.declared.record.Record.TheVariants.{Pend, PendCert, Cert}
use Rattle.urb_pending.specs.PendingSet.{name_given}
use Rattle.urb_node.specs.declared.answer.Answer.{Answer}
use Rattle.urb_node.specs.declared.answer.Answer.TheVariants as answer
use Rattle.urb_node.specs.declared.cause.Cause.{Cause}
use Rattle.urb_node.specs.Part.{packet_from}
use Rattle.urb_node.specs.NodeMemories.{Memory}
use Rattle.urb_node.specs.internal.LayerAdditions.{counted_with}
use Rattle.urb_node.specs.AnswerPackets.{answer_with}

-- The outcome of a call: an answer, a refusal, or a record to store together with the packet that
-- caused it; and the memory afterwards.
pub data Outcome : Type 0 where
  Answers : Answer (List Carried) → Memory → Outcome
  Refuses : Refusal → Outcome
  Wants : Entry → Option Cause → Memory → Outcome

-- the node's own messages
abbrev pub own_of : Memory → List Content
own_of a = own a.node a.pairs

-- ---- submit

-- the record of a new message of the node's own
abbrev pub own_record : Memory → Content → Entry
own_record a m =
    let x = name a.node (suc (length (own_of a))) in
    if is_majority 1 a.limits.n then PendCert x m else Pend x m

-- a message with a new number
abbrev pub fresh_outcome : Memory → Content → Outcome
fresh_outcome a m =
    if not (m.number == next_number m.client (own_of a)) then Refuses
    (refusal.Gap (next_number m.client (own_of a)))
    else if not (nat_lt (length (own_of a)) a.limits.cap) then Refuses refusal.Full
    else Wants (own_record a m) None a

-- a message with the number of a message that is pending under this name
abbrev pub repeat_outcome : Memory → Content → Label → Option Content → Outcome
repeat_outcome a m x None = Refuses refusal.Conflict
repeat_outcome a m x (Some first) =
    if bytes_eq first.payload m.payload then Answers
    (answer.Accepted x) a else Refuses refusal.Conflict

-- a submit, by the name of the message with its client number, if there is one
abbrev pub numbered_outcome : Memory → Content → Option Label → Outcome
numbered_outcome a m None = fresh_outcome a m
numbered_outcome a m (Some x) = repeat_outcome a m x (message_of a.pairs x)

-- a submit of this message
abbrev pub submit_outcome : Memory → Content → Outcome
submit_outcome a m =
    if nat_lt MAX_PAYLOAD (length m.payload) then Refuses refusal.TooLong
    else numbered_outcome a m (name_given a.node m.client m.number (own_of a))

-- ---- arrival

-- the memory once a node is counted for a name
abbrev pub with_counted : Memory → Label → ℕ → Memory
with_counted a x q = record a { acks = counted_with a.acks x q }

-- the memory once the certificate is heard that these flags report, if they report one
abbrev pub hearing : Memory → ℕ → Label → Option Flags → Memory
hearing a q x flags = record a
    { heard = if says_certified flags then counted_with a.heard x q else a.heard }

-- a packet whose name is pending and not certified
abbrev pub counted_outcome : Memory → ℕ → Label → Option Flags → Outcome
counted_outcome a q x flags =
    let after = hearing a q x flags in
    if majority_passes a.limits.n (acked (with_ack a.acks x q) x) then Wants (Cert x)
    (Some (packet_from q (says_certified flags))) (with_counted after x q)
    else if acked a.acks x q then Answers (answer.Again x) after
    else Answers (answer.Noted x) (with_counted after x q)

-- whether a packet of a certified name is answered: if it is of version two and doesn't say that
-- the certificate was heard
abbrev pub wants_answer : Option Flags → Bool
wants_answer None = false
wants_answer (Some flags) = not flags.heard

-- a packet whose name is certified
abbrev pub certified_outcome : Memory → ℕ → Label → Content → Option Flags → Outcome
certified_outcome a q x m flags =
    if wants_answer flags then Answers
    (answer.Answered x (answer_with a.node q x m (acked a.heard x q) ∷ [])) a
    else Answers (answer.Again x) a

-- a packet from q, by the message that is pending under its name, if there is one
abbrev pub pending_outcome : Memory → ℕ → Label → Content → Option Flags → Option Content → Outcome
pending_outcome a q x m flags None =
    Wants (if is_majority 2 a.limits.n then PendCert x m else Pend x m)
    (Some (packet_from q (says_certified flags))) a
pending_outcome a q x m flags (Some first) =
    if has_name a.certified x then certified_outcome
    (hearing a q x flags) q x m flags else counted_outcome a q x flags

-- a packet from q
abbrev pub arrive_outcome : Memory → ℕ → Label → Content → Option Flags → Outcome
arrive_outcome a q x m flags = pending_outcome a q x m flags (message_of a.pairs x)
