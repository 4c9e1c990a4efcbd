-- The tickets that a worker takes at once, and the calls that it makes a list of.
use Rattle.std.specs.Prelude.{List, None, Option, Some, length, map, ℕ, ◌++◌, ◌<◌, ◌∷◌, ◌≡◌}
use Rattle.urb_foresight.specs.ForeseenDrafts.{event_of}
use Rattle.urb_foresight.specs.declared.foresight.TheConstants.{MAX_BATCH}
use Rattle.urb_foresight.specs.declared.waiting_call.WaitingCall.{WaitingCall}
use Rattle.urb_names.specs.declared.refusal.NoMemory.{NoMemory}
use Rattle.urb_world.specs.Step.{Event}
use Rattle.urb_turn.specs.declared.job.Job.{Job}
use Rattle.urb_worker.specs.TicketBatches.{calls_ahead}

-- these are the jobs of a batch: the job of its first ticket, and fewer than MAX_BATCH more
abbrev pub IsBatchOf : Job → List Job → Type 0
IsBatchOf first jobs =
    (more : List Job) × (jobs ≡ first ∷ more) × (length more < MAX_BATCH)

-- These are all calls at node p of these jobs, in their order, up to a job that crashes or restarts
-- a node. If memory was refused, at least one call is left out behind these.
abbrev pub AreCalls : {A : Type 0} → ℕ → List Job → List (WaitingCall A) → Option NoMemory → Type 0
AreCalls p jobs calls None = map (event_of p) calls ≡ calls_ahead p jobs
AreCalls p jobs calls (Some refused) =
    (next : Event) × (later : List Event)
    × (map (event_of p) calls ++ next ∷ later ≡ calls_ahead p jobs)
