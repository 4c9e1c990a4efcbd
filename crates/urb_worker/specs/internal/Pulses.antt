-- When a worker's node ticks early, between two ticks of the timer.
use Rattle.std.specs.Duration.{as_nanos}
use Rattle.std.specs.Prelude.{Bool, List, Ok, Err, Result, false, if◌then◌else◌, length, min, nat_lt}
use Rattle.std.specs.Prelude.{true, ℕ, ◌&&◌, ◌*◌, ◌+◌, ◌≡◌}
use Rattle.std.specs.declared.alloc.Global.{Global}
use Rattle.urb_group.specs.Commands.{reply_of}
use Rattle.urb_group.specs.declared.reply.Reply.{Reply}
use Rattle.urb_group.specs.declared.reply.Reply.TheVariants as reply
use Rattle.urb_names.specs.CarriedPackets.{Carried}
use Rattle.urb_names.specs.PacketGrammar.{packet_of}
use Rattle.urb_names.specs.declared.refusal.PacketFault.{PacketFault}
use Rattle.urb_node.specs.Replies.{packets_in}
use Rattle.urb_node.specs.Steps.{says_heard}
use Rattle.urb_node.specs.declared.answer.Answer.TheVariants as answer
use Rattle.urb_turn.specs.Views.{FinishedView}
use Rattle.urb_turn.specs.declared.job.Job.{Job}
use Rattle.urb_turn.specs.declared.job.Job.TheVariants as job
use Rattle.urb_worker.specs.declared.pulse.TheConstants.{EARLY_TICKS, LEAST_PAUSE}
use Rattle.urb_worker.specs.declared.tickets.Patience.{Patience}
use Rattle.urb_worker.specs.declared.tickets.Patience.TheVariants as patience
use Rattle.urb_worker.specs.internal.Replies.{tells_record}

-- whether a node's last tick sent something, and how many early ticks it had since it learnt
-- something new
pub record PulseView : Type 0 where
  pub owes : Bool
  pub early : ℕ

-- a pulse at rest
abbrev pub at_rest : PulseView
at_rest = record { owes = false; early = 0 }

-- Whether an early tick is due: if the last tick sent something, and there were fewer than
-- EARLY_TICKS of them.
abbrev pub is_due : PulseView → Bool
is_due v = v.owes && nat_lt v.early EARLY_TICKS

-- The pulse after a tick that sent something, or nothing. An early tick is counted. A tick of the
-- timer begins a new count, and a tick that sent nothing ends all.
abbrev pub after_tick : Bool → Bool → PulseView → PulseView
after_tick early false v = at_rest
after_tick true true v = record { owes = true; early = min (v.early + 1) EARLY_TICKS }
after_tick false true v = record { owes = true; early = 0 }

-- The pulse after a job that told something new, or nothing new. What is new begins a new count.
abbrev pub after_news : Bool → PulseView → PulseView
after_news true v = record { owes = v.owes; early = 0 }
after_news false v = v

-- whether a reply has packets
abbrev pub sends : Reply Global → Bool
sends said = nat_lt 0 (length (packets_in (reply_of said)))

-- whether a packet's source heard the certificate of the packet's target
abbrev pub says_so : Result Carried PacketFault → Bool
says_so (Ok packet) = says_heard packet.flags
says_so (Err fault) = false

-- whether a datagram is such a packet
abbrev pub tells_heard : List ℕ → Bool
tells_heard datagram = says_so (packet_of datagram)

-- Whether a packet told the node something new: a record is stored, or the packet's source is
-- counted now, or that source heard this node's certificate.
abbrev pub is_new : List ℕ → Reply Global → Bool
is_new datagram (reply.Stored done) = true
is_new datagram (reply.Same (answer.Noted x)) = true
is_new datagram (reply.Same (answer.Again x)) = tells_heard datagram
is_new datagram _ = false

-- whether a job with this reply told the node something new: a submit that stored a record, or a
-- packet
abbrev pub is_news : Job → Reply Global → Bool
is_news (job.Submit p client number payload) said = tells_record (reply_of said)
is_news (job.Arrive p bytes) said = is_new bytes.items said
is_news (job.Tick p) said = false
is_news (job.Crash p) said = false
is_news (job.Restart p) said = false
is_news (job.Status p) said = false

-- whether a job is a tick
abbrev pub is_tick : Job → Bool
is_tick (job.Tick p) = true
is_tick _ = false

-- the pulse after a job with this reply; of a tick it is said whether it was early
abbrev pub pulse_by : Bool → Job → Reply Global → PulseView → PulseView
pulse_by early next said v =
    if is_tick next then after_tick early (sends said) v else after_news (is_news next said) v

-- the same, from the result of a job
abbrev pub pulse_after : Bool → FinishedView → PulseView → PulseView
pulse_after early done v = pulse_by early done.job done.reply v

-- How long a worker waits for a ticket with this pulse. If an early tick is due, it waits for a
-- pause: LEAST_PAUSE milliseconds, and as many more for each early tick that it counted. Otherwise
-- it waits without an end.
abbrev pub IsPauseOf : PulseView → Patience → Type 0
IsPauseOf v patience.Brief = ⊥
IsPauseOf v (patience.For time) =
    (is_due v ≡ true) × (as_nanos time ≡ LEAST_PAUSE * (v.early + 1) * 1_000_000)
IsPauseOf v patience.Endless = is_due v ≡ false

-- whether a worker waits for a ticket without an end
abbrev pub is_endless : Patience → Bool
is_endless patience.Endless = true
is_endless _ = false
