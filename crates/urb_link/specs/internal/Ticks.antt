-- What the timer asks a worker to do.
use Rattle.std.specs.Prelude.{ℕ, ◌≡◌}
use Rattle.urb_turn.specs.declared.job.Job.{Job}
use Rattle.urb_turn.specs.declared.job.Job.TheVariants as job

-- the job is a tick of node p
abbrev pub IsTick : ℕ → Job → Type 0
IsTick p (job.Tick q) = q ≡ p
IsTick p (job.Submit q client number payload) = ⊥
IsTick p (job.Arrive q bytes) = ⊥
IsTick p (job.Crash q) = ⊥
IsTick p (job.Restart q) = ⊥
IsTick p (job.Status q) = ⊥
