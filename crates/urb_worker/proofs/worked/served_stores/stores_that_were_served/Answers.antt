-- No job lets a store forget how often it has failed.
use Rattle.std.proofs.Common.{Bool, List, Option, [], arith, false, subst, sym, true, ℕ, ⊎_elim, ◌++◌}
use Rattle.std.proofs.Common.{◌∷◌, ◌≡◌, ◌≤◌}
use Rattle.std.proofs.Math.Logic.{∥∥₁_elim}
use Rattle.std.proofs.Props.{props}
use Rattle.urb_group.specs.GroupViews.{GroupView}
use Rattle.urb_show.specs.internal.ReaderExamples.{shows_none}
use Rattle.urb_stable.specs.MemoryStores.{Memory, empty_memory}
use Rattle.urb_names.specs.declared.refusal.NoMemory.{NoMemory}
use Rattle.urb_world.specs.Step.{Event}
use Rattle.urb_worker.specs.Acts.{Act, Ended}
use Rattle.urb_turn.specs.Jobs.{runs_at}
use Rattle.urb_turn.specs.KeptTails.{Prepares}
use Rattle.urb_turn.proofs.HeldTails.{prepares-either}
use Rattle.urb_worker.specs.ServedStores.{IsLeftOf, Serves, WorksAll, notes_of}
use Rattle.urb_worker.specs.ServedStores.Serves.{DoesMany, DoesOne, DoesOwn, Rests}
use Rattle.urb_worker.specs.TicketBatches.{calls_ahead}
use Rattle.urb_turn.specs.Turns.{Stores}
use Rattle.urb_turn.specs.Views.{FinishedView}
use Rattle.urb_turn.specs.WholeTurns.{Does}
use Rattle.urb_turn.specs.declared.job.Job.{Job}
use Rattle.urb_turn.specs.declared.turn_stages.Stage.TheVariants as stage
use Rattle.urb_turn.specs.declared.turn_stages.Stage.{Stage}
use Rattle.urb_turn.specs.internal.TurnExamples.{failed_once, holding, memory}
use Rattle.urb_worker.proofs.worked.served_stores.stores_that_were_served.Goals as goal

-- a store that stays has failed as often
same : (before after : Memory) → after ≡ before → before.failures ≤ after.failures
same before after is =
    subst (λ (it : Memory). before.failures ≤ it.failures) (sym is) (omega arith)

-- the store's part never lowers the number of its failures
part-grows : (before after : Memory) (at new : Stage) → Stores memory before at after new
    → before.failures ≤ after.failures
part-grows before after (stage.Drafted draft) new (r, of, keeps, is) = keeps.counts.grows
part-grows before after stage.Retrieving new (r, gives, is) = gives.counts.grows
part-grows before after (stage.Kept receipt) new h = same before after h.0
part-grows before after (stage.Doubtful doubt) new h = same before after h.0
part-grows before after (stage.Retrieved image) new h = same before after h.0
part-grows before after (stage.Unread fault) new h = same before after h.0
part-grows before after stage.Asking new h = same before after h.0
part-grows before after (stage.Answered reply) new h = same before after h.0

-- so does a job
job-grows : (opened : GroupView) (n : ℕ) (runs : Bool) (job : Job) (before after : Memory)
    (done : FinishedView) → Does memory opened n runs job before after done
    → before.failures ≤ after.failures
job-grows opened n true job before after done h =
    part-grows before after h.turn.at h.turn.new h.turn.stores
job-grows opened n false job before after done h = same before after h.0

-- so does what a worker has its store do before the jobs of a batch
prepare-grows : (opened : GroupView) (n : ℕ) (events : List Event) (refused : Option NoMemory)
    (before after : Memory) → Prepares memory opened n events refused before after
    → before.failures ≤ after.failures
prepare-grows opened n events refused before after h =
    ⊎_elim (same before after) (λ asks. asks.keeps.counts.grows)
    (prepares-either memory opened n events refused before after h)

-- so do jobs one after the other
all-grow : (opened : GroupView) (n : ℕ) (jobs : List Job) (before after : Memory)
    (old new : List Act) → WorksAll memory opened n jobs before after old new
    → before.failures ≤ after.failures
all-grow opened n [] before after old new h = same before after h.0
all-grow opened n (job ∷ jobs) before after old new h =
    let here = job-grows opened n (runs_at n job) job before h.0 h.2.done h.2.does in
    let next = all-grow opened n jobs h.0 after h.1 new h.3 in
    omega (arith, here, next)

-- and so do all jobs of a worker
grows : (opened : GroupView) (n : ℕ) (first last : Memory) (start acts : List Act)
    → Serves memory opened n first last start acts → first.failures ≤ last.failures
grows opened n first last start acts (Rests _ _) = omega arith
grows opened n first last start acts (DoesOwn _ before _ _ old _ job serves own works) =
    let here = grows opened n first before start old serves in
    let next = job-grows opened n (runs_at n job) job before last works.done works.does in
    omega (arith, here, next)
grows opened n first last start acts (DoesOne _ before _ _ old _ job end serves ends works) =
    let here = grows opened n first before start old serves in
    let next = job-grows opened n (runs_at n job) job before last works.done works.does in
    omega (arith, here, next)
grows opened n first last start acts (DoesMany _ before _ _ old _ jobs end serves ends does) =
    let here = grows opened n first before start old serves in
    let held = prepare-grows opened n (calls_ahead n jobs) does.refused before does.ready
    does.prepares in
    let next = all-grow opened n jobs does.ready last
    (old ++ Ended end ∷ [] ++ notes_of does.refused) acts does.works in
    omega (arith, here, held, next)

-- a failure is not forgotten
kept : (n : ℕ) → IsLeftOf memory shows_none n failed_once empty_memory → ⊥
kept n left = ∥∥₁_elim left (hlevel props) (λ served. fewer (grows shows_none n failed_once
    empty_memory [] served.0 served.1))
  where
    fewer : 1 ≤ 0 → ⊥
    fewer e = omega (arith, e)

pub returns-clause-by_no_job : goal.returns-clause-by_no_job
returns-clause-by_no_job c =
    (∣ ([], Rests empty_memory []) ∣₁, (∣ ([], Rests holding []) ∣₁, tt))

pub returns-clause-a_failure_that_is_forgotten : goal.returns-clause-a_failure_that_is_forgotten
returns-clause-a_failure_that_is_forgotten c h = kept 1 h.0

pub returns-clause-a_second_one_that_is_forgotten : goal.returns-clause-a_second_one_that_is_forgotten
returns-clause-a_second_one_that_is_forgotten c h = kept 2 h.1.0

pub returns-clause-a_store_too_many : goal.returns-clause-a_store_too_many
returns-clause-a_store_too_many c h = h.1
