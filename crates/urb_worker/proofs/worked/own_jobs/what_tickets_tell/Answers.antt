-- Batches of one or two tickets, and pulses and feeds that no ticket changes.
use Rattle.std.proofs.Common.{List, None, Option, Some, [], ap, arith, false, refl, subst, true, ◌∙◌}
use Rattle.std.proofs.Common.{◌∷◌, ◌≡◌}
use Rattle.urb_group.specs.declared.reply.Reply.TheVariants as reply
use Rattle.urb_show.specs.internal.ReaderExamples.{new_four}
use Rattle.urb_turn.specs.Changes.{change_by, change_of}
use Rattle.urb_turn.specs.Views.{FinishedView}
use Rattle.urb_turn.specs.declared.change.Change.{Change}
use Rattle.urb_turn.specs.declared.change.Change.TheVariants as change
use Rattle.urb_turn.specs.declared.job.Job.{Job}
use Rattle.urb_turn.specs.declared.job.Job.TheVariants as job
use Rattle.urb_turn.specs.internal.TurnExamples.{ended}
use Rattle.urb_worker.specs.internal.OwnJobs.{FeedingView, FeedsAfter, LearnsAll, OwnJobsView}
use Rattle.urb_worker.specs.internal.Pulses.{PulseView}
use Rattle.urb_worker.specs.internal.WorkerExamples.{owing, resting, with_feed}
use Rattle.urb_worker.proofs.worked.own_jobs.what_tickets_tell.Goals as goal

pub returns-clause-nothing : goal.returns-clause-nothing
returns-clause-nothing c = record {
  more = [];
  few = omega arith;
  alone = λ feeds. refl;
  all = (
    resting,
    record {
      done = ended (job.Status 1) (reply.Up 1) 0;
      job = refl;
      feeding = refl;
      pulse = refl;
    },
    refl,
  );
}

pub returns-clause-nothing_while_it_feeds : goal.returns-clause-nothing_while_it_feeds
returns-clause-nothing_while_it_feeds c f = record {
  more = [];
  few = omega arith;
  alone = λ feeds. refl;
  all = (
    with_feed f,
    record {
      done = ended (job.Status 1) (reply.Up 1) 0;
      job = refl;
      feeding = refl;
      pulse = refl;
    },
    refl,
  );
}

pub returns-clause-of_a_tick : goal.returns-clause-of_a_tick
returns-clause-of_a_tick c said some = record {
  more = [];
  few = omega arith;
  alone = λ feeds. refl;
  all = (
    owing,
    record {
      done = ended (job.Tick 1) said 1;
      job = refl;
      feeding = refl;
      pulse = rw some refl;
    },
    refl,
  );
}

pub returns-clause-of_a_tick_behind_it : goal.returns-clause-of_a_tick_behind_it
returns-clause-of_a_tick_behind_it c said some = record {
  more = job.Tick 1 ∷ [];
  few = omega arith;
  alone = λ feeds. absurd (cc);
  all = (
    resting,
    record {
      done = ended (job.Status 1) (reply.Up 1) 0;
      job = refl;
      feeding = refl;
      pulse = refl;
    },
    (
      owing,
      record {
        done = ended (job.Tick 1) said 1;
        job = refl;
        feeding = refl;
        pulse = rw some refl;
      },
      refl,
    ),
  );
}

pub returns-clause-of_a_crash : goal.returns-clause-of_a_crash
returns-clause-of_a_crash c f = record {
  more = [];
  few = omega arith;
  alone = λ feeds. refl;
  all = (
    resting,
    record {
      done = ended (job.Crash 1) (reply.WentDown 1) 1;
      job = refl;
      feeding = refl;
      pulse = refl;
    },
    refl,
  );
}

-- a status changes no feed
status-stays : (done : FinishedView) (old new : Option FeedingView) → done.job ≡ job.Status 1
    → FeedsAfter new_four true 1 (change_of done) old new → new ≡ old
status-stays done old new is after =
    subst (λ (next : Job). FeedsAfter new_four true 1 (change_by next done.reply done.events) old new) is
    after

-- a status alone changes no feed
alone-stays : (more : List Job) (old new : OwnJobsView) → more ≡ []
    → LearnsAll new_four true 1 (job.Status 1 ∷ more) old new → new.feeding ≡ old.feeding
alone-stays [] old new none all =
    ap (λ (v : OwnJobsView). v.feeding) all.2
    ∙ status-stays all.1.done old.feeding all.0.feeding all.1.job all.1.feeding
alone-stays (next ∷ more) old new none all = absurd (cc)

pub returns-clause-of_a_crash_behind_it : goal.returns-clause-of_a_crash_behind_it
returns-clause-of_a_crash_behind_it c f h =
    let same : resting.feeding ≡ (with_feed f).feeding =
    alone-stays h.more (with_feed f) resting (h.alone refl) h.all in
    absurd (cc)

-- a worker that never ticks early keeps its pulse
pulse-stays : (jobs : List Job) (old new : OwnJobsView) → LearnsAll new_four false 1 jobs old new
    → new.pulse ≡ old.pulse
pulse-stays [] old new same = ap (λ (v : OwnJobsView). v.pulse) same
pulse-stays (next ∷ jobs) old new all = pulse-stays jobs all.0 new all.2 ∙ all.1.pulse

pub returns-clause-of_a_tick_if_it_never_ticks_early :
    goal.returns-clause-of_a_tick_if_it_never_ticks_early
returns-clause-of_a_tick_if_it_never_ticks_early c h =
    let same : true ≡ false =
    ap (λ (v : PulseView). v.owes) (pulse-stays (job.Tick 1 ∷ h.more) resting owing h.all) in
    absurd (cc)

-- a worker that feeds none begins no feed
step-none : (changed : Option Change) (old new : Option FeedingView)
    → FeedsAfter new_four false 1 changed old new → old ≡ None → new ≡ None
step-none None old new same none = same ∙ none
step-none (Some (change.CameBack p)) old new same none = same ∙ none
step-none (Some (change.Crashed p)) old new gone none = gone
step-none (Some (change.Failed p r)) old new gone none = gone

feeds-none : (jobs : List Job) (old new : OwnJobsView) → LearnsAll new_four false 1 jobs old new
    → old.feeding ≡ None → new.feeding ≡ None
feeds-none [] old new same none = ap (λ (v : OwnJobsView). v.feeding) same ∙ none
feeds-none (next ∷ jobs) old new all none =
    feeds-none jobs all.0 new all.2
    (step-none (change_of all.1.done) old.feeding all.0.feeding all.1.feeding none)

pub returns-clause-a_feed_if_it_feeds_none : goal.returns-clause-a_feed_if_it_feeds_none
returns-clause-a_feed_if_it_feeds_none c f h =
    let gone : (with_feed f).feeding ≡ None =
    feeds-none (job.Restart 1 ∷ h.more) resting (with_feed f) h.all refl in
    absurd (cc)
