-- Words for the worked examples of workers: jobs, and what a worker has to do of its own.
use Rattle.std.specs.Prelude.{List, None, Some, [], suc, true, zero, ℕ, ◌∷◌}
use Rattle.urb_world.specs.Step.{Event, Submit}
use Rattle.urb_world.specs.internal.Scripts.{message}
use Rattle.urb_turn.specs.declared.job.Job.{Job}
use Rattle.urb_turn.specs.declared.job.Job.TheVariants as job
use Rattle.urb_worker.specs.internal.OwnJobs.{FeedingView, OwnJobsView}
use Rattle.urb_worker.specs.internal.Pulses.{at_rest}

-- a submit of client 7's message with this number and no bytes, at node p
abbrev pub submit_at : ℕ → ℕ → Job
submit_at p number = job.Submit p 7 number []

-- the event of this submit
abbrev pub submitted : ℕ → ℕ → Event
submitted p number = Submit p (message 7 number "")

-- `count` ticks of node 2
abbrev pub ticks : ℕ → List Job
ticks zero = []
ticks (suc count) = job.Tick 2 ∷ ticks count

-- a worker that has nothing to do of its own
abbrev pub resting : OwnJobsView
resting = record { feeding = None; pulse = at_rest }

-- a worker that feeds its node
abbrev pub with_feed : FeedingView → OwnJobsView
with_feed feeding = record { feeding = Some feeding; pulse = at_rest }

-- a worker whose node's last tick sent something
abbrev pub owing : OwnJobsView
owing = record { feeding = None; pulse = record { owes = true; early = 0 } }
