-- What a worker does besides its tickets: it feeds its node, and ticks early.
use Rattle.std.specs.Prelude.{Bool, IsSome, List, None, Option, Some, [], false, if◌then◌else◌, length, true}
use Rattle.std.specs.Prelude.{ℕ, ◌&&◌, ◌<◌, ◌==◌, ◌≡◌, ◌∷◌}
use Rattle.urb_feed.specs.Feeds.{FeedView}
use Rattle.urb_foresight.specs.declared.foresight.TheConstants.{MAX_BATCH}
use Rattle.urb_group.specs.GroupViews.{GroupView}
use Rattle.urb_names.specs.CarriedPackets.{Carried}
use Rattle.urb_names.specs.PacketGrammar.{spelling}
use Rattle.urb_turn.specs.Changes.{change_of}
use Rattle.urb_turn.specs.NodeFeeds.{IsFeedOf, IsNextPortion}
use Rattle.urb_turn.specs.Views.{FinishedView}
use Rattle.urb_turn.specs.declared.change.Change.{Change}
use Rattle.urb_turn.specs.declared.change.Change.TheVariants as change
use Rattle.urb_turn.specs.declared.job.Job.{Job}
use Rattle.urb_turn.specs.declared.job.Job.TheVariants as job
use Rattle.urb_worker.specs.declared.tickets.Patience.{Patience}
use Rattle.urb_worker.specs.declared.tickets.Patience.TheVariants as patience
use Rattle.urb_turn.specs.internal.Arrivals.{IsArrival}
use Rattle.urb_worker.specs.internal.Pulses.{IsPauseOf, PulseView, is_due, pulse_after}

-- the rest of a node's feed: the packets of its last portion that have not been fed yet, and the
-- feed after that portion
pub record FeedingView : Type 0 where
  pub feed : FeedView
  pub waiting : List Carried

-- what is left of a feed: nothing if it has gone through all names and no packet waits
abbrev pub left_of : FeedingView → Option FeedingView
left_of feeding =
    if (feeding.feed.after == feeding.feed.end) && (length feeding.waiting == 0) then None
    else Some feeding

-- a worker's jobs of its own: what is left of its node's feed, and its pulse
pub record OwnJobsView : Type 0 where
  pub feeding : Option FeedingView
  pub pulse : PulseView

-- How long a worker waits for a ticket. While its node is fed, it doesn't wait. Otherwise its pulse
-- says how long.
abbrev pub WaitsFor : Option FeedingView → PulseView → Patience → Type 0
WaitsFor None pulse time = IsPauseOf pulse time
WaitsFor (Some feeding) pulse time = time ≡ patience.Brief

-- The group that was opened leads to those of which portions are made.
module _ (opened : GroupView) where
  -- The packets that come next, from those that wait. If none waits, they are the next portion.
  abbrev pub Comes : List Carried → FeedView → FeedView → List Carried → Type 0
  Comes [] old new packets = IsNextPortion opened old new packets
  Comes (first ∷ others) old new packets = (new ≡ old) × (packets ≡ first ∷ others)

  -- The next job of a feed: the arrival, at its target, of the packet that comes next. There is none
  -- if the portion that was made is empty.
  abbrev pub IsNextArrival : FeedingView → FeedingView → Option Job → Type 0
  IsNextArrival old new None = Comes old.waiting old.feed new.feed new.waiting
  IsNextArrival old new (Some fed) =
      (p : Carried) × Comes old.waiting old.feed new.feed (p ∷ new.waiting)
      × IsArrival p.target (spelling p) fed

  -- node n is fed with all that its log lacks
  abbrev pub IsFed : ℕ → Option FeedingView → Type 0
  IsFed n None = ⊥
  IsFed n (Some feeding) = IsFeedOf opened n feeding.feed × (feeding.waiting ≡ [])

  -- the feed of node n begins anew if the worker mends, and else stays
  abbrev pub Begins : Bool → ℕ → Option FeedingView → Option FeedingView → Type 0
  Begins true n old new = IsFed n new
  Begins false n old new = new ≡ old

  -- What a change of the node means for its feed. A node that came back is fed from the beginning, and
  -- one that went down is fed no more.
  abbrev pub FeedsAfter : Bool → ℕ → Option Change → Option FeedingView → Option FeedingView
      → Type 0
  FeedsAfter mends n None old new = new ≡ old
  FeedsAfter mends n (Some (change.CameBack p)) old new = Begins mends n old new
  FeedsAfter mends n (Some (change.Crashed p)) old new = new ≡ None
  FeedsAfter mends n (Some (change.Failed p r)) old new = new ≡ None

  -- A worker's next job of its own. While node n is fed, it is the feed's next job. Otherwise it is
  -- the tick that is due, if the worker has waited for it.
  abbrev pub IsOwnJob : ℕ → Bool → PulseView → Option FeedingView → Option FeedingView → Option Job
      → Type 0
  IsOwnJob n waited pulse None new own =
      (new ≡ None) × (own ≡ (if waited && is_due pulse then Some (job.Tick n) else None))
  IsOwnJob n waited pulse (Some old) new own =
      (after : FeedingView) × IsNextArrival old after own × (new ≡ left_of after)

  -- What a worker learns by a job, which was its own or a ticket's: what the job means for the node's
  -- feed, and for the pulse.
  pub record Learns (mends own : Bool) (n : ℕ) (next : Job) (old new : OwnJobsView) : Type 0 where
    pub done : FinishedView
    pub job : done.job ≡ next
    pub feeding : FeedsAfter mends n (change_of done) old.feeding new.feeding
    pub pulse : new.pulse ≡ (if mends then pulse_after own done old.pulse else old.pulse)

  -- the same, if there was a job of its own; otherwise nothing changed
  abbrev pub LearnsIf : Bool → ℕ → Option Job → OwnJobsView → OwnJobsView → Type 0
  LearnsIf mends n None old new = new ≡ old
  LearnsIf mends n (Some next) old new = Learns mends true n next old new

  -- A worker does its next job of its own, if there is one. It has waited for a ticket, or it hasn't.
  pub record DoesOwn (mends : Bool) (n : ℕ) (waited : Bool) (old new : OwnJobsView) : Type 0 where
    pub begun : OwnJobsView
    pub own : Option Job
    pub pulse : begun.pulse ≡ old.pulse
    pub begins : IsOwnJob n waited old.pulse old.feeding begun.feeding own
    pub learns : LearnsIf mends n own begun new

  -- A worker does its next job of its own, unless memory was refused for the arrival of a packet. Then
  -- the feed has ended.
  abbrev pub MayDoOwn : {X : Type 0} → Bool → ℕ → Bool → OwnJobsView → OwnJobsView → Option X
      → Type 0
  MayDoOwn mends n waited old new None = DoesOwn mends n waited old new
  MayDoOwn mends n waited old new (Some refused) =
      (new.feeding ≡ None) × (new.pulse ≡ old.pulse)

  -- what a worker learns by the jobs of these tickets, one after the other
  abbrev pub LearnsAll : Bool → ℕ → List Job → OwnJobsView → OwnJobsView → Type 0
  LearnsAll mends n [] old new = new ≡ old
  LearnsAll mends n (next ∷ jobs) old new =
      (between : OwnJobsView) × Learns mends false n next old between
      × LearnsAll mends n jobs between new

  -- What a worker learns by a ticket's job, and by those of a few more tickets, which it takes with
  -- it. While it feeds its node, it takes one ticket alone.
  pub record LearnsBatch (mends : Bool) (n : ℕ) (ticket : Job) (old new : OwnJobsView) : Type 0 where
    pub more : List Job
    pub few : length more < MAX_BATCH
    pub alone : IsSome old.feeding → more ≡ []
    pub all : LearnsAll mends n (ticket ∷ more) old new

  -- A worker does a ticket, and those that wait behind it. Then it does its next job of its own.
  pub record DoesBoth {X : Type 0} (mends : Bool) (n : ℕ) (ticket : Job) (old new : OwnJobsView)
      (refused : Option X) : Type 0 where
    pub between : OwnJobsView
    pub first : LearnsBatch mends n ticket old between
    pub second : MayDoOwn mends n false between new refused
