-- What a worker lets out of its node: packets, and reports of changes. And why its batches ended.
use Rattle.std.specs.Prelude.{List, None, Option, Some, [], ℕ, ◌++◌, ◌∷◌, ◌≡◌, ◌⊎◌}
use Rattle.urb_names.specs.CarriedPackets.{Carried}
use Rattle.urb_names.specs.PacketGrammar.{spelling}
use Rattle.urb_group.specs.Commands.{reply_of}
use Rattle.urb_node.specs.Replies.{packets_in}
use Rattle.urb_turn.specs.Changes.{change_of}
use Rattle.urb_turn.specs.Views.{FinishedView}
use Rattle.urb_turn.specs.declared.change.Change.{Change}
use Rattle.urb_worker.specs.declared.ticket_batch.BatchEnd.{BatchEnd}

-- An act. The link got these bytes for this node. Or a packet for this node was lost, because
-- memory for its bytes was refused. Or a change of a node was reported. Two more acts let nothing
-- out. The worker noted why it takes no more tickets at once. Or it noted that memory was refused
-- while it foresaw what tickets will draft.
pub data Act : Type 0 where
  Sent : ℕ → List ℕ → Act
  Lost : ℕ → Act
  Reported : Change → Act
  Ended : BatchEnd → Act
  RanShort : Act

-- the report of a change, if there was one
abbrev pub reports_of : Option Change → List Act
reports_of None = []
reports_of (Some change) = Reported change ∷ []

-- One packet more was given to the link for its target, in its only encoding, or was lost.
abbrev pub MaySend : List Act → Carried → List Act → Type 0
MaySend before packet after =
    (after ≡ before ++ Sent packet.target (spelling packet) ∷ [])
    ⊎ (after ≡ before ++ Lost packet.target ∷ [])

-- each of these packets was given to the link or lost, one after the other, and nothing else was
-- let out
abbrev pub Sends : List Act → List Carried → List Act → Type 0
Sends before [] after = after ≡ before
Sends before (packet ∷ packets) after =
    (between : List Act) × MaySend before packet between × Sends between packets after

-- what a worker lets out after a job: a report of the change if the job changed whether a node is
-- up, and then the packets of the job's reply
abbrev pub LetsOut : List Act → FinishedView → List Act → Type 0
LetsOut before done after =
    Sends (before ++ reports_of (change_of done)) (packets_in (reply_of done.reply)) after
