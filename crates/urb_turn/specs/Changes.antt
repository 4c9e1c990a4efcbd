-- Whether a turn took its node down or brought it back. Operators are informed of such changes.
use Rattle.std.specs.Prelude.{List, None, Ok, Option, Some, if◌then◌else◌, ℕ, ◌==◌, ◌≡◌}
use Rattle.std.specs.declared.alloc.Global.{Global}
use Rattle.urb_stable.specs.Entries.{Entry}
use Rattle.urb_stable.specs.StableStorage.{refusal_of}
use Rattle.urb_stable.specs.declared.stable.StoreFault.{StoreFault}
use Rattle.urb_group.specs.GroupCalls.{ComesUp, GoesDown}
use Rattle.urb_group.specs.GroupViews.{GroupView}
use Rattle.urb_world.specs.Step.{Crash, Fail, Restart}
use Rattle.urb_group.specs.declared.reply.Reply.{Reply}
use Rattle.urb_group.specs.declared.reply.Reply.TheVariants as reply
use Rattle.urb_turn.specs.Views.{FinishedView}
use Rattle.urb_turn.specs.declared.change.Change.{Change}
use Rattle.urb_turn.specs.declared.change.Change.TheVariants as change
use Rattle.urb_turn.specs.declared.job.Job.{Job}
use Rattle.urb_turn.specs.declared.job.Job.TheVariants as job

-- A turn that drafts a record at p had two events and is refused: its store failed, and p went
-- down.
abbrev pub failure_by : ℕ → Reply Global → ℕ → Option Change
failure_by p (reply.Refused r) events = if events == 2 then Some (change.Failed p r) else None
failure_by p _ events = None

-- a crash of p that was not refused
abbrev pub crash_by : ℕ → Reply Global → Option Change
crash_by p (reply.WentDown q) = Some (change.Crashed p)
crash_by p _ = None

-- a restart of p that was not refused
abbrev pub return_by : ℕ → Reply Global → Option Change
return_by p (reply.Up q) = Some (change.CameBack p)
return_by p _ = None

-- how a turn changed whether its node is up, from a job, its reply and its number of events
abbrev pub change_by : Job → Reply Global → ℕ → Option Change
change_by (job.Submit p client number payload) said events = failure_by p said events
change_by (job.Arrive p bytes) said events = failure_by p said events
change_by (job.Tick p) said events = None
change_by (job.Crash p) said events = crash_by p said
change_by (job.Restart p) said events = return_by p said
change_by (job.Status p) said events = None

-- the same, from the result of a job
abbrev pub change_of : FinishedView → Option Change
change_of came = change_by came.job came.reply came.events

-- The node changed in this way during a turn that borrowed the group twice. The first time the
-- group went from the first value to the second, and then from the third to the last.
abbrev pub HasChanged : Change → GroupView → GroupView → GroupView → GroupView → Type 0
HasChanged (change.Failed p r) lent given_back lent_again left =
    (fault : StoreFault) × (r ≡ refusal_of fault) × GoesDown lent_again p (Fail p) (Ok tt) left
HasChanged (change.Crashed p) lent given_back lent_again left =
    GoesDown lent p (Crash p) (Ok tt) given_back
HasChanged (change.CameBack p) lent given_back lent_again left =
    (image : List Entry) × ComesUp lent_again p (Restart p image) (Ok tt) left
