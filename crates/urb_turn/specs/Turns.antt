-- What a turn does with the House and with its node's store.
use Rattle.std.specs.Prelude.{Bool, Err, IfSome, List, MatchResult, None, Ok, Option, Result, Some}
use Rattle.std.specs.Prelude.{Vec, false, length, true, ℕ, ◌-◌, ◌≡◌, ◌⊎◌, ltb}
use Rattle.std.specs.declared.alloc.Global.{Global}
use Rattle.urb_names.specs.CarriedPackets.{Carried}
use Rattle.urb_names.specs.PacketGrammar.{packet_of}
use Rattle.urb_names.specs.declared.refusal.Refusal.{Refusal}
use Rattle.urb_names.specs.declared.refusal.Refusal.TheVariants as refusal
use Rattle.urb_stable.specs.StoreAnswers.{answer_of}
use Rattle.urb_stable.specs.Doubts.{Doubted}
use Rattle.urb_stable.specs.Entries.{Entry}
use Rattle.urb_stable.specs.KeptDrafts.{Keeps}
use Rattle.urb_stable.specs.PlacedRecords.{Placed}
use Rattle.urb_stable.specs.StableStorage.{list_in, refusal_of}
use Rattle.urb_stable.specs.declared.stable.Stable.{Ghosts}
use Rattle.urb_stable.specs.declared.stable.StoreFault.{StoreFault}
use Rattle.urb_node.specs.Replies.{Done}
use Rattle.urb_stable.specs.RetrievedRecords.{Gives}
use Rattle.urb_group.specs.GroupCalls.{Answers, ComesUp, Commits, GoesDown, Takes, Ticks}
use Rattle.urb_group.specs.GroupViews.{GroupView, IsSound, view_of}
use Rattle.urb_group.specs.ReportedStates.{state_of}
use Rattle.urb_world.specs.Step.{Arrive, Commit, Crash, Event, Fail, Restart, Submit, Tick}
use Rattle.urb_group.specs.declared.reply.Reply.{Reply}
use Rattle.urb_group.specs.declared.reply.Reply.TheVariants as reply
use Rattle.urb_group.specs.declared.state.State.{State}
use Rattle.urb_group.specs.declared.taken.Taken.{Taken}
use Rattle.urb_show.specs.Houses.{HouseView, IsEvent}
use Rattle.urb_show.specs.Pasts.{IsLedTo}
use Rattle.urb_show.specs.Statuses.{TellsStatus}
use Rattle.urb_show.specs.declared.status.Status.{Status}
use Rattle.urb_turn.specs.Counting.{count_of}
use Rattle.urb_turn.specs.Jobs.{node_of}
use Rattle.urb_turn.specs.Loans.{AreLoans, IsLoan, LoanView, LoansView}
use Rattle.urb_turn.specs.Settlings.{NothingNew, Published, Settles}
use Rattle.urb_turn.specs.Stages.{commit_reply, crash_stage, fail_reply, image_stage, kept_stage}
use Rattle.urb_turn.specs.Stages.{restart_reply, restart_stage, status_reply, taken_stage}
use Rattle.urb_turn.specs.Stages.{tick_stage}
use Rattle.urb_turn.specs.Views.{FinishedView, TurnView}
use Rattle.urb_turn.specs.declared.job.Job.{Job}
use Rattle.urb_turn.specs.declared.job.Job.TheVariants as job
use Rattle.urb_turn.specs.declared.turn_stages.Stage.{Stage}
use Rattle.urb_turn.specs.declared.turn_stages.Stage.TheVariants as stage

-- A call of the House: its event is the last one of the past, it counts as one, and it publishes
-- nothing. Or the call was refused, and nothing changed.
abbrev pub Counts : {T E : Type 0} → Event → Result T E → HouseView → HouseView → Type 0
Counts event result old new =
    MatchResult result (λ done. IsEvent event old new) (λ refused. new ≡ old)

-- ---- before the store

-- The job's event in the House, the turn's stage after it, and its number of events. A restart and
-- a status have no event here: if its node is down, a restart asks the store first.
abbrev pub Begins : HouseView → Job → HouseView → Stage → ℕ → Type 0
Begins old (job.Submit p client number payload) new at events =
    (r : Result (Taken Global) Refusal)
    × Takes old.group p (Submit p (record { client = client; number = number; payload = payload }))
    r new.group
    × Counts (Submit p (record { client = client; number = number; payload = payload })) r old new
    × (at ≡ taken_stage r) × (events ≡ count_of r)
Begins old (job.Arrive p bytes) new at events =
    (r : Result (Taken Global) Refusal)
    × Takes old.group p (Arrive p (packet_of bytes.items)) r new.group
    × Counts (Arrive p (packet_of bytes.items)) r old new
    × (at ≡ taken_stage r) × (events ≡ count_of r)
Begins old (job.Tick p) new at events =
    (r : Result (List Carried) Refusal)
    × Ticks old.group (Tick p) r new.group
    × Counts (Tick p) r old new × (at ≡ tick_stage r) × (events ≡ count_of r)
Begins old (job.Crash p) new at events =
    (r : Result (Unit {0}) Refusal)
    × GoesDown old.group p (Crash p) r new.group
    × Counts (Crash p) r old new × (at ≡ crash_stage p r) × (events ≡ count_of r)
Begins old (job.Restart p) new at events =
    (state : Option State) × Answers (λ w. Some (state_of (w.node p).state)) old.group p state
    × (new ≡ old) × (at ≡ restart_stage state) × (events ≡ 0)
Begins old (job.Status p) new at events = (new ≡ old) × (at ≡ stage.Asking) × (events ≡ 0)

-- ---- the store's part

-- the result of keeping a draft belongs to this draft
abbrev pub IsKeptOf : Placed → Result Placed Doubted → Type 0
IsKeptOf draft result =
    MatchResult result (λ receipt. receipt ≡ draft) (λ doubt. doubt.node ≡ draft.node)

module _ {S A : Type 0} (g : Ghosts S A) where
  -- A draft is kept, or an image is retrieved. In all other stages the store is not asked.
  abbrev pub Stores : S → Stage → S → Stage → Type 0
  Stores before (stage.Drafted draft) after new =
      (r : Result Placed Doubted) × IsKeptOf draft r × Keeps g before draft (answer_of r) after
      × (new ≡ kept_stage r)
  Stores before stage.Retrieving after new =
      (r : Result (Vec Entry Global) StoreFault) × Gives g before (list_in r) after
      × (new ≡ image_stage r)
  Stores before (stage.Kept receipt) after new = (after ≡ before) × (new ≡ stage.Kept receipt)
  Stores before (stage.Doubtful doubt) after new = (after ≡ before) × (new ≡ stage.Doubtful doubt)
  Stores before (stage.Retrieved image) after new = (after ≡ before) × (new ≡ stage.Retrieved image)
  Stores before (stage.Unread fault) after new = (after ≡ before) × (new ≡ stage.Unread fault)
  Stores before stage.Asking after new = (after ≡ before) × (new ≡ stage.Asking)
  Stores before (stage.Answered reply) after new = (after ≡ before) × (new ≡ stage.Answered reply)

-- ---- after the store

-- the number of names that node p has delivered
abbrev pub logged : GroupView → ℕ → ℕ
logged group p = length (view_of group p).log

-- whether a receipt released names
abbrev pub has_released : Result Done (Placed × Refusal) → Bool
has_released (Ok done) = ltb 0 done.released
has_released (Err refused) = false

-- The last event in the House of a turn in this stage, and its results. The results are the reply,
-- the node's status if the job asked for it, and the number of events. They also say whether the
-- names that the turn released were published.
abbrev pub Ends : HouseView → Job → Stage → HouseView → Reply Global → Option Status → Published → ℕ
    → Type 0
Ends old job (stage.Kept receipt) new said status settling events =
    (r : Result Done (Placed × Refusal)) × (between : HouseView)
    × Commits old.group receipt r between.group
    × Counts (Commit receipt.node receipt.pos receipt.entry) r old between
    × Settles (has_released r) receipt.node between new settling
    × (said ≡ commit_reply r) × (status ≡ None) × (events ≡ count_of r)
Ends old job (stage.Doubtful doubt) new said status settling events =
    (r : Result (Unit {0}) Refusal)
    × GoesDown old.group doubt.node (Fail doubt.node) r new.group
    × Counts (Fail doubt.node) r old new
    × (said ≡ fail_reply doubt.fault r) × (status ≡ None) × (settling ≡ NothingNew)
    × (events ≡ count_of r)
Ends old job (stage.Retrieved image) new said status settling events =
    (r : Result (Unit {0}) Refusal) × (between : HouseView)
    × ComesUp old.group (node_of job) (Restart (node_of job) image.items) r between.group
    × Counts (Restart (node_of job) image.items) r old between
    × Settles (ltb (logged old.group (node_of job)) (logged between.group (node_of job)))
    (node_of job) between new settling
    × (said ≡ restart_reply (node_of job) r) × (status ≡ None) × (events ≡ count_of r)
Ends old job (stage.Unread fault) new said status settling events =
    (new ≡ old) × (said ≡ reply.Refused (refusal_of fault)) × (status ≡ None)
    × (settling ≡ NothingNew) × (events ≡ 0)
Ends old job stage.Asking new said status settling events =
    (new ≡ old) × TellsStatus old.group (node_of job) status
    × (said ≡ status_reply (node_of job) status) × (settling ≡ NothingNew) × (events ≡ 0)
Ends old job (stage.Answered answer) new said status settling events =
    (new ≡ old) × (said ≡ answer) × (status ≡ None) × (settling ≡ NothingNew) × (events ≡ 0)
Ends old job (stage.Drafted draft) new said status settling events = ⊥
Ends old job stage.Retrieving new said status settling events = ⊥

-- the turn ends in this way, after the events that it had before
abbrev pub Finishes : HouseView → TurnView → HouseView → FinishedView → Type 0
Finishes old turn new finished =
    Ends old turn.job turn.stage new finished.reply finished.status finished.settling
    (finished.events - turn.events)

-- ---- the whole of a turn, whatever its store is

-- from the stage before the store's part to a stage that the turn may have after it, whatever its
-- store is
abbrev pub Goes : Stage → Stage → Type 0
Goes (stage.Drafted draft) after =
    (after ≡ stage.Drafted draft)
    ⊎ ((r : Result Placed Doubted) × IsKeptOf draft r × (after ≡ kept_stage r))
Goes stage.Retrieving after =
    (after ≡ stage.Retrieving) ⊎ ((r : Result (Vec Entry Global) StoreFault)
    × (after ≡ image_stage r))
Goes before after = after ≡ before

-- A turn of this job began at a moment of the House, with this first loan, and is in this stage.
-- The past of the House led to its group.
abbrev pub HasBegun : GroupView → Job → Stage → Option LoanView → Type 0
HasBegun opened job after loan =
    (old new : HouseView) × (at : Stage) × (events : ℕ)
    × IsSound old.group × Begins old job new at events × Goes at after
    × IsLedTo opened old.past old.group × IfSome loan (λ l. IsLoan old new l)

-- A turn of this job began at a moment of the House. Its store did its part, and the turn ended
-- with these results at a later moment. The past of the House led to its group. If the House gave
-- its moments, these are the loans of the turn.
abbrev pub CameOf : GroupView → Job → Reply Global → Option Status → Published → Option LoansView
    → Type 0
CameOf opened job said status settling loans =
    (at : Stage) × (old new : HouseView) × (events : ℕ) × (first : Option LoanView)
    × IsSound old.group × HasBegun opened job at first
    × Ends old job at new said status settling events
    × IsSound opened × IsLedTo opened old.past old.group
    × IfSome loans (λ l. AreLoans first old new l)

-- The outcome of a job. If it ran, these are its turn's results. Otherwise it is refused in the way
-- that a job for a missing node is, and has no loans.
abbrev pub IsOutcome : GroupView → Bool → Job → Reply Global → Option Status → Published
    → Option LoansView → Type 0
IsOutcome opened true job said status settling loans = CameOf opened job said status settling loans
IsOutcome opened false job said status settling loans =
    (said ≡ reply.Refused refusal.BadNode) × (status ≡ None) × (settling ≡ NothingNew)
    × (loans ≡ None)
