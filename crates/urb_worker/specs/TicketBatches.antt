-- The tickets that a worker takes at once: how many, and which of their calls it foresees.
use Rattle.std.specs.Prelude.{List, [], if◌then◌else◌, ℕ, ◌++◌, ◌<◌, ◌==◌, ◌∷◌, ◌≡◌}
use Rattle.urb_foresight.specs.declared.foresight.TheConstants.{MAX_BATCH}
use Rattle.urb_names.specs.PacketGrammar.{packet_of}
use Rattle.urb_world.specs.Step.{Arrive, Event, Submit}
use Rattle.urb_turn.specs.Jobs.{turns_over}
use Rattle.urb_turn.specs.declared.job.Job.{Job}
use Rattle.urb_turn.specs.declared.job.Job.TheVariants as job
use Rattle.urb_worker.specs.declared.ticket_batch.BatchEnd.{BatchEnd}
use Rattle.urb_worker.specs.declared.ticket_batch.BatchEnd.TheVariants as end

-- Why a worker takes this many tickets at once, and no more. It has as many as there may be. Or it
-- looked for one more and found none. Or it took one alone: memory was refused, or it feeds its
-- node.
abbrev pub IsEndOf : ℕ → BatchEnd → Type 0
IsEndOf count end.Full = count ≡ MAX_BATCH
IsEndOf count (end.NoneWaits found) = count < MAX_BATCH
IsEndOf count (end.NoMemory refused) = count ≡ 1
IsEndOf count (end.Feeds feeds) = count ≡ 1

-- The call by which the job may draft a record at node p: a submit to p, or an arrival at p.
abbrev pub call_of : ℕ → Job → List Event
call_of p (job.Submit q client number payload) =
    if q == p
    then Submit p (record { client = client; number = number; payload = payload }) ∷ []
    else []
call_of p (job.Arrive q bytes) = if q == p then Arrive p (packet_of bytes.items) ∷ [] else []
call_of p job = []

-- the calls at node p of all these jobs before the first that crashes or restarts a node
abbrev pub calls_ahead : ℕ → List Job → List Event
calls_ahead p [] = []
calls_ahead p (job ∷ jobs) =
    if turns_over job then [] else call_of p job ++ calls_ahead p jobs
