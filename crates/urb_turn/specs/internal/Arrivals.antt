-- What a receiver asks its worker to do.
use Rattle.std.specs.Prelude.{List, [], ◌∷◌, ℕ, ◌≡◌}
use Rattle.urb_turn.specs.declared.job.Job.{Job}
use Rattle.urb_turn.specs.declared.job.Job.TheVariants as job

-- the job is the arrival of these bytes at node p
abbrev pub IsArrival : ℕ → List ℕ → Job → Type 0
IsArrival p datagram (job.Arrive q bytes) = (q ≡ p) × (bytes.items ≡ datagram)
IsArrival p datagram (job.Submit q client number payload) = ⊥
IsArrival p datagram (job.Tick q) = ⊥
IsArrival p datagram (job.Crash q) = ⊥
IsArrival p datagram (job.Restart q) = ⊥
IsArrival p datagram (job.Status q) = ⊥

-- the job is the arrival at node p of the datagram that has waited longest
abbrev pub IsOfFirst : ℕ → List (List ℕ) → Job → Type 0
IsOfFirst p [] next = ⊥
IsOfFirst p (first ∷ others) next = IsArrival p first next
