-- The jobs of a feed.
use Rattle.std.proofs.Common.{Bool, IsSome, List, None, Option, Some, [], arith, false, if◌then◌else◌}
use Rattle.std.specs.Prelude.{is_some}
use Rattle.std.proofs.Common.{length, refl, subst, true, ℕ, ◌&&◌, ◌++◌, ◌<◌, ◌≡◌, ◌∷◌}
use Rattle.urb_feed.specs.Feeds.{FeedView}
use Rattle.urb_group.specs.GroupViews.{GroupView}
use Rattle.urb_names.specs.CarriedPackets.{Carried}
use Rattle.urb_names.specs.PacketGrammar.{spelling}
use Rattle.urb_turn.specs.Changes.{change_of}
use Rattle.urb_worker.specs.internal.OwnJobs.{Comes, DoesBoth, DoesOwn, FeedingView}
use Rattle.urb_turn.specs.NodeFeeds.{IsNextPortion}
use Rattle.urb_worker.specs.internal.OwnJobs.{FeedsAfter, IsNextArrival}
use Rattle.urb_worker.specs.internal.OwnJobs.{IsOwnJob, Learns, LearnsAll, LearnsBatch, MayDoOwn}
use Rattle.urb_worker.specs.internal.OwnJobs.{OwnJobsView, left_of}
use Rattle.urb_worker.specs.internal.TicketBatches.{IsBatchOf}
use Rattle.urb_worker.specs.internal.Pulses.{PulseView, is_due, pulse_after}
use Rattle.urb_turn.specs.Views.{FinishedView}
use Rattle.urb_turn.specs.declared.job.Job.{Job}
use Rattle.urb_turn.specs.declared.job.Job.TheVariants as job
use Rattle.urb_worker.specs.ServedStores.{needs_no_ticket}
use Rattle.urb_turn.specs.internal.Arrivals.{IsArrival}

module _ (opened : GroupView) where
  -- what comes next if packets wait
  pub comes_next : (waiting packets : List Carried) (feed : FeedView) → 0 < length waiting
      → packets ≡ waiting → Comes opened waiting feed feed packets
  comes_next [] packets feed some same = absurd (omega (arith, some))
  comes_next (first ∷ others) packets feed some same = (refl, same)

  -- what comes next if none waits
  pub comes_anew : (waiting packets : List Carried) (old new : FeedView) → length waiting ≡ 0
      → IsNextPortion opened old new packets → Comes opened waiting old new packets
  comes_anew [] packets old new none portion = portion
  comes_anew (first ∷ others) packets old new none portion = absurd (omega (arith, none))

  -- what comes next, said of an equal list
  pub comes_same : (waiting there packets : List Carried) (old new : FeedView)
      → Comes opened waiting old new there → there ≡ packets → Comes opened waiting old new packets
  comes_same waiting there packets old new comes same =
      subst (λ (xs : List Carried). Comes opened waiting old new xs) same comes

  -- a packet of the feed arrives
  pub arrives : (old new : FeedingView) (p : Carried) (fed : Job)
      → Comes opened old.waiting old.feed new.feed (p ∷ new.waiting)
      → IsArrival p.target (spelling p) fed → IsNextArrival opened old new (Some fed)
  arrives old new p fed comes is = (p, comes, is)

  -- the feed goes on
  pub goes_on : (n : ℕ) (waited : Bool) (pulse : PulseView) (old after : FeedingView)
      (new : Option FeedingView) (own : Option Job) → IsNextArrival opened old after own
      → new ≡ left_of after → IsOwnJob opened n waited pulse (Some old) new own
  goes_on n waited pulse old after new own next left = (after, next, left)

  -- a job of a worker's own is an arrival or a tick
  pub own_job : (n : ℕ) (waited : Bool) (pulse : PulseView) (old new : Option FeedingView) (next : Job)
      → IsOwnJob opened n waited pulse old new (Some next) → needs_no_ticket next ≡ true
  own_job n waited pulse None new next own = at (waited && is_due pulse) own.1
    where
      at : (due : Bool) → Some next ≡ (if due then Some (job.Tick n) else None)
          → needs_no_ticket next ≡ true
      at true is = let same : next ≡ job.Tick n = cc in rw same refl
      at false is = absurd (cc)
  own_job n waited pulse (Some feeding) new next own = arrival next own.1.2
    where
      arrival : (it : Job) → IsArrival own.1.0.target (spelling own.1.0) it → needs_no_ticket it ≡ true
      arrival (job.Arrive q bytes) is = refl
      arrival (job.Submit q client number payload) is = absurd is
      arrival (job.Tick q) is = absurd is
      arrival (job.Crash q) is = absurd is
      arrival (job.Restart q) is = absurd is
      arrival (job.Status q) is = absurd is

  -- what a worker learns by a job
  pub learns : (mends own : Bool) (n : ℕ) (next : Job) (done : FinishedView) (old new : OwnJobsView)
      → done.job ≡ next → FeedsAfter opened mends n (change_of done) old.feeding new.feeding
      → new.pulse ≡ (if mends then pulse_after own done old.pulse else old.pulse)
      → Learns opened mends own n next old new
  learns mends own n next done old new job feeding pulse = record {
    done = done;
    job = job;
    feeding = feeding;
    pulse = pulse;
  }

  -- a job of its own
  pub does_own : (mends : Bool) (n : ℕ) (waited : Bool) (next : Job) (old begun new : OwnJobsView)
      → IsOwnJob opened n waited old.pulse old.feeding begun.feeding (Some next)
      → begun.pulse ≡ old.pulse → Learns opened mends true n next begun new
      → DoesOwn opened mends n waited old new
  does_own mends n waited next old begun new begins pulse learns = record {
    begun = begun;
    own = Some next;
    pulse = pulse;
    begins = begins;
    learns = learns;
  }

  -- no job of its own
  pub does_none : (mends : Bool) (n : ℕ) (waited : Bool) (old new : OwnJobsView)
      → IsOwnJob opened n waited old.pulse old.feeding new.feeding None → new.pulse ≡ old.pulse
      → DoesOwn opened mends n waited old new
  does_none mends n waited old new begins pulse = record {
    begun = new;
    own = None;
    pulse = pulse;
    begins = begins;
    learns = refl;
  }

  -- one more ticket of a batch
  pub learns_more : (mends : Bool) (n : ℕ) (jobs : List Job) (next : Job)
      (old between new : OwnJobsView) → LearnsAll opened mends n jobs old between
      → Learns opened mends false n next between new → LearnsAll opened mends n (jobs ++ next ∷ []) old new
  learns_more mends n [] next old between new so_far it =
      (new, subst (λ (v : OwnJobsView). Learns opened mends false n next v new) so_far it, refl)
  learns_more mends n (job ∷ jobs) next old between new so_far it =
      (so_far.0, so_far.1, learns_more mends n jobs next so_far.0 between new so_far.2 it)

  -- a ticket that comes alone
  pub learns_alone : (mends : Bool) (n : ℕ) (ticket : Job) (old new : OwnJobsView)
      → Learns opened mends false n ticket old new → LearnsBatch opened mends n ticket old new
  learns_alone mends n ticket old new it = record {
    more = [];
    few = omega arith;
    alone = λ feeds. refl;
    all = (new, it, refl);
  }

  -- a ticket with those behind it
  pub learns_batch : (mends : Bool) (n : ℕ) (ticket : Job) (jobs : List Job) (old new : OwnJobsView)
      → IsBatchOf ticket jobs → is_some old.feeding ≡ false → LearnsAll opened mends n jobs old new
      → LearnsBatch opened mends n ticket old new
  learns_batch mends n ticket jobs old new batch rests all = record {
    more = batch.0;
    few = batch.2;
    alone = λ feeds. absurd (at old.feeding rests feeds);
    all = subst (λ (js : List Job). LearnsAll opened mends n js old new) batch.1 all;
  }
    where
      at : (o : Option FeedingView) → is_some o ≡ false → IsSome o → ⊥
      at None e some = absurd (cc)
      at (Some f) e some = absurd (cc)

  -- tickets, and then its next job
  pub does_both : {X : Type 0} (mends : Bool) (n : ℕ) (ticket : Job) (old between new : OwnJobsView)
      (refused : Option X) → LearnsBatch opened mends n ticket old between
      → MayDoOwn opened mends n false between new refused → DoesBoth opened mends n ticket old new refused
  does_both mends n ticket old between new refused first second = record {
    between = between;
    first = first;
    second = second;
  }
