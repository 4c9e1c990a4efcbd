-- What workers do, job after job: to their nodes' stores, and outside; and the order of the stores.
use Rattle.std.specs.Prelude.{Bool, List, None, Option, Some, [], false, length, suc, true, zero, ℕ}
use Rattle.std.specs.Prelude.{◌+◌, ◌++◌, ◌∷◌, ◌≡◌}
use Rattle.urb_names.specs.declared.refusal.NoMemory.{NoMemory}
use Rattle.urb_stable.specs.declared.stable.Stable.{Ghosts}
use Rattle.urb_group.specs.GroupViews.{GroupView, IsSound, Shows}
use Rattle.urb_world.specs.Step.{Event}
use Rattle.urb_world.specs.World.{World}
use Rattle.urb_show.specs.Pasts.{IsLedTo}
use Rattle.urb_worker.specs.Acts.{Act, Ended, LetsOut, RanShort}
use Rattle.urb_worker.specs.TicketBatches.{IsEndOf, calls_ahead}
use Rattle.urb_worker.specs.declared.ticket_batch.BatchEnd.{BatchEnd}
use Rattle.urb_turn.specs.Jobs.{runs_at}
use Rattle.urb_turn.specs.KeptTails.{Prepares}
use Rattle.urb_turn.specs.NodeStores.{AreStoresAfter}
use Rattle.urb_turn.specs.Views.{FinishedView}
use Rattle.urb_turn.specs.WholeTurns.{Does}
use Rattle.urb_turn.specs.declared.job.Job.{Job}
use Rattle.urb_turn.specs.declared.job.Job.TheVariants as job

-- consecutive numbers, from the first one on
abbrev pub numbers_from : ℕ → ℕ → List ℕ
numbers_from first zero = []
numbers_from first (suc more) = first ∷ numbers_from (first + 1) more

-- whether a job may be the worker's own: an arrival, of a packet that it feeds, or a tick
abbrev pub needs_no_ticket : Job → Bool
needs_no_ticket (job.Arrive p bytes) = true
needs_no_ticket (job.Tick p) = true
needs_no_ticket _ = false

-- what a worker notes if memory was refused
abbrev pub notes_of : Option NoMemory → List Act
notes_of None = []
notes_of (Some refused) = RanShort ∷ []

module _ {S A : Type 0} (g : Ghosts S A) (opened : GroupView) where
  -- The worker of node n does a job: the job's whole turn on the House, with the node's store. Then
  -- it lets out what the turn's result says, and nothing else.
  pub record Works (n : ℕ) (job : Job) (before after : S) (old new : List Act) : Type 0 where
    pub done : FinishedView
    pub does : Does g opened n (runs_at n job) job before after done
    pub lets_out : LetsOut old done new

module _ {S A : Type 0} (g : Ghosts S A) (opened : GroupView) where
  -- the worker of node n does these jobs, one after the other
  abbrev pub WorksAll : ℕ → List Job → S → S → List Act → List Act → Type 0
  WorksAll n [] before after old new = (after ≡ before) × (new ≡ old)
  WorksAll n (job ∷ jobs) before after old new =
      (between : S) × (acts : List Act) × Works g opened n job before between old acts
      × WorksAll n jobs between after acts new

  -- The worker of node n does the jobs of the tickets that it has taken at once. Before that it has
  -- its store asked to hold ahead just the records that are foreseen of the calls of these jobs. It
  -- notes if memory was refused, so that fewer are foreseen. Then it does the jobs, one after the
  -- other.
  pub record DoesBatch (n : ℕ) (jobs : List Job) (before after : S) (old new : List Act)
      : Type 0 where
    pub refused : Option NoMemory
    pub ready : S
    pub prepares : Prepares g opened n (calls_ahead n jobs) refused before ready
    pub works : WorksAll n jobs ready after (old ++ notes_of refused) new

-- The worker of node n does any number of jobs, one after the other: jobs of its own, and those of
-- tickets. It takes a ticket with those that wait, and notes why it takes no more. It may do a ticket
-- alone at once. Before several its store is asked to hold records ahead. This leaves its store so,
-- and it has let this out.
pub data Serves {S A : Type 0} (g : Ghosts S A) (opened : GroupView) (n : ℕ) :
    S → S → List Act → List Act → Type 0 where
  Rests : (store : S) (acts : List Act) → Serves g opened n store store acts acts
  DoesOwn : (first before after : S) (start old new : List Act) (job : Job)
      → Serves g opened n first before start old → needs_no_ticket job ≡ true
      → Works g opened n job before after old new
      → Serves g opened n first after start new
  DoesOne : (first before after : S) (start old new : List Act) (job : Job) (end : BatchEnd)
      → Serves g opened n first before start old → IsEndOf 1 end
      → Works g opened n job before after (old ++ Ended end ∷ []) new
      → Serves g opened n first after start new
  DoesMany : (first before after : S) (start old new : List Act) (jobs : List Job) (end : BatchEnd)
      → Serves g opened n first before start old → IsEndOf (length jobs) end
      → DoesBatch g opened n jobs before after (old ++ Ended end ∷ []) new
      → Serves g opened n first after start new

module _ {S A : Type 0} (g : Ghosts S A) (opened : GroupView) where
  -- the same, for use in clauses
  abbrev pub HasServed : ℕ → S → S → List Act → List Act → Type 0
  HasServed n first last start acts = ∥ Serves g opened n first last start acts ∥₁

  -- the last store is the first one after some number of jobs of node n
  abbrev pub IsLeftOf : ℕ → S → S → Type 0
  IsLeftOf n first last = ∥ ((acts : List Act) × Serves g opened n first last [] acts) ∥₁

  -- A run came to its end. Its history led from the opened group to this one. Each store matches its
  -- node after the history, provided that each matched its node at the opening.
  pub record EndsWhole (firsts lasts : List S) : Type 0 where
    pub history : List Event
    pub group : GroupView
    pub sound : IsSound group
    pub nodes : length group.nodes ≡ opened.size.n
    pub size : group.size.n ≡ opened.size.n
    pub leads : IsLedTo opened history group
    pub stores : (start : World) → Shows opened start → AreStoresAfter g start [] 1 firsts
        → AreStoresAfter g start history 1 lasts

  -- each store of the last list is the store of the first list at the same place, after some number
  -- of jobs of its own node
  abbrev pub AreServed : List ℕ → List S → List S → Type 0
  AreServed [] [] [] = Unit {0}
  AreServed (n ∷ nodes) (first ∷ firsts) (last ∷ lasts) =
      IsLeftOf n first last × AreServed nodes firsts lasts
  AreServed nodes firsts lasts = ⊥
