-- Jobs, their nodes, and the workers that do them.
use Rattle.std.specs.Prelude.{Bool, IfSome, None, Option, false, true, ℕ, ◌==◌, ◌≡◌}
use Rattle.urb_names.specs.PacketGrammar.{packet_of}
use Rattle.urb_world.specs.Step.{Arrive, Event, Submit}
use Rattle.urb_foresight.specs.ForeseenDrafts.{event_of}
use Rattle.urb_foresight.specs.declared.waiting_call.WaitingCall.{WaitingCall}
use Rattle.urb_turn.specs.declared.job.Job.{Job}
use Rattle.urb_turn.specs.declared.job.Job.TheVariants as job

-- the node that the job is for
abbrev pub node_of : Job → ℕ
node_of (job.Submit p client number payload) = p
node_of (job.Arrive p bytes) = p
node_of (job.Tick p) = p
node_of (job.Crash p) = p
node_of (job.Restart p) = p
node_of (job.Status p) = p

-- whether the worker of node p does the job: it is for p, or a crash
abbrev pub runs_at : ℕ → Job → Bool
runs_at p (job.Submit q client number payload) = q == p
runs_at p (job.Arrive q bytes) = q == p
runs_at p (job.Tick q) = q == p
runs_at p (job.Crash q) = true
runs_at p (job.Restart q) = q == p
runs_at p (job.Status q) = q == p

-- the call of node p with this event, if the job is for p
abbrev pub IsCall : {A : Type 0} → ℕ → Bool → Event → Option (WaitingCall A) → Type 0
IsCall p true event called = (called ≡ None → ⊥) × IfSome called (λ call. event_of p call ≡ event)
IsCall p false event called = called ≡ None

-- A submit to node p, or an arrival there, may make the node draft a record. If the job is one of
-- these, this is its call. Any other job has no call.
abbrev pub CallsAt : {A : Type 0} → ℕ → Job → Option (WaitingCall A) → Type 0
CallsAt p (job.Submit q client number payload) called =
    IsCall p (q == p) (Submit p (record { client = client; number = number; payload = payload }))
    called
CallsAt p (job.Arrive q bytes) called = IsCall p (q == p) (Arrive p (packet_of bytes.items)) called
CallsAt p job called = called ≡ None

-- whether the job crashes or restarts a node
abbrev pub turns_over : Job → Bool
turns_over (job.Crash p) = true
turns_over (job.Restart p) = true
turns_over job = false
