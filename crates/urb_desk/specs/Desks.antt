-- What the desk of a running node answers.
use Rattle.std.specs.Prelude.{Bool, List, if◌then◌else◌, None, Option, Some, drop}
use Rattle.std.specs.Prelude.{length, map, take, true, ℕ, ◌-◌, ◌≡◌, ◌≤◌, ◌⊎◌}
use Rattle.std.specs.declared.alloc.Global.{Global}
use Rattle.urb_names.specs.Names.{name}
use Rattle.urb_names.specs.LabelsAndContents.{Content, Label}
use Rattle.urb_names.specs.RefusalReports.{detail_of, number_of}
use Rattle.urb_client.specs.Requests.{Ask, Asked, Read, Submit, Wait}
use Rattle.urb_client.specs.declared.request.Control.{Control}
use Rattle.urb_client.specs.declared.request.Control.TheVariants as control
use Rattle.urb_client.specs.Pages.{SaysPage}
use Rattle.urb_client.specs.Responses.{Accepted, Done as IsDone, Refused, Said, Status as HasStatus}
use Rattle.urb_client.specs.declared.response.NodeState.{NodeState}
use Rattle.urb_client.specs.declared.response.NodeState.TheVariants as told
use Rattle.urb_node.specs.declared.answer.Answer.TheVariants as answer
use Rattle.urb_stable.specs.Entries.{Entry as Record}
use Rattle.urb_world.specs.Acceptance.{HasStored}
use Rattle.urb_group.specs.GroupViews.{GroupView, IsSound, Shows}
use Rattle.urb_world.specs.Step.{Crash as CrashOf, Event, Restart as RestartOf}
use Rattle.urb_world.specs.World.{World}
use Rattle.urb_group.specs.declared.reply.Reply.{Reply}
use Rattle.urb_group.specs.declared.reply.Reply.TheVariants as reply
use Rattle.urb_group.specs.declared.state.State.{State}
use Rattle.urb_group.specs.declared.state.State.TheVariants as state
use Rattle.urb_node.specs.Replies.{Up, WentDown}
use Rattle.urb_world.specs.RecoveryPlans.{after}
use Rattle.urb_show.specs.Pasts.{IsLedTo, IsToldAt}
use Rattle.urb_show.specs.Readers.{ReaderView, Learns, Takes, ToldView}
use Rattle.urb_show.specs.Lists.{list_at}
use Rattle.urb_show.specs.Statuses.{TellsStatus}
use Rattle.urb_show.specs.declared.entry.Entry.{Entry}
use Rattle.urb_show.specs.declared.status.Status.{Status}
use Rattle.urb_turn.specs.Loans.{LoansView}
use Rattle.urb_turn.specs.Settlings.{Published, told_in}
use Rattle.urb_turn.specs.Turns.{IsOutcome}
use Rattle.urb_turn.specs.declared.job.Job.{Job}
use Rattle.urb_turn.specs.declared.job.Job.TheVariants as job
use mathlib.Core.List.{IsPrefix}

-- A desk: its node, what its reader knows, and the events that it has seen, all up to some moment.
-- It has lost its worker or the House if it has a witness of that: a channel without its other end, a
-- turn of another request, or a read that said so.
pub record DeskView : Type 0 where
  pub node : ℕ
  pub known : ReaderView
  pub past : List Event
  pub has_lost : Bool

-- The refusal Down, without a detail. It is also the answer if the worker or the House is gone.
abbrev pub gone : Said
gone = Refused 3 0

-- a node's state, in the form that a response has
abbrev pub told_state : State → NodeState
told_state state.Down = told.Down
told_state state.Ready = told.Ready
told_state state.Storing = told.Storing

-- The response for a reply: the number of the client's message, that the request is done, or a
-- refusal. The other replies belong to no request.
abbrev pub said_of : Reply Global → Said
said_of (reply.Same (answer.Accepted x)) = Accepted x.seq
said_of (reply.Same (answer.Noted x)) = gone
said_of (reply.Same (answer.Again x)) = gone
said_of (reply.Same (answer.Answered x packets)) = gone
said_of (reply.Stored done) = if done.accepted then Accepted done.name.seq else gone
said_of (reply.Refused r) = Refused (number_of r) (detail_of r)
said_of (reply.WentDown p) = IsDone
said_of (reply.Up p) = IsDone
said_of (reply.Drafted x position) = gone
said_of (reply.Sent packets) = gone

-- the response for a turn: the node's status if the request asked for it, and else that of its
-- reply
abbrev pub told_of : Reply Global → Option Status → Said
told_of said (Some status) = HasStatus (told_state status.state) status.own status.logged
told_of said None = said_of said

-- an entry of a page, in the form that a response has
abbrev pub pair_of : Entry → Label × Content
pair_of entry = (entry.name, entry.message)

-- the entries of a list from this place on, at most `max` of them
abbrev pub part_of : List Entry → ℕ → ℕ → List (Label × Content)
part_of list place max = map pair_of (take max (drop (place - 1) list))

-- The lists of one moment were taken. They are prefixes of what the nodes had delivered at a place
-- of the history, behind all that the desk had seen. The desk has now seen all events until there.
pub record Looks (opened : GroupView) (before after : DeskView) : Type 0 where
  pub takes : Takes opened before.known after.known
  pub place : after.past ≡ after.known.past
  pub behind : IsPrefix before.past after.past

-- A read was answered. The lists of one moment were taken. The response has as many of the desk's
-- node's entries in them as a frame has room for. Or the House is gone: the desk has a witness of
-- that, and nothing else changed.
abbrev pub Reads : GroupView → DeskView → ℕ → ℕ → Said → DeskView → Type 0
Reads opened before place max said after =
    (Looks opened before after
    × SaysPage (part_of (list_at after.known.seen (before.node - 1)) place max) said)
    ⊎ ((after.known ≡ before.known) × (after.past ≡ before.past) × (said ≡ gone)
    × (after.has_lost ≡ true))

-- what a turn published, if anything, was learnt
abbrev pub LearnsTold : Option ToldView → ReaderView → ReaderView → Type 0
LearnsTold None before after = after ≡ before
LearnsTold (Some token) before after = Learns token before after

-- the job at node p that does what a request without fields asks
abbrev pub control_job : ℕ → Control → Job
control_job p control.Status = job.Status p
control_job p control.Crash = job.Crash p
control_job p control.Restart = job.Restart p

-- the job is what this request asks at node p
abbrev pub IsJobOf : ℕ → Asked → Job → Type 0
IsJobOf p (Submit client number payload) (job.Submit q of ranked bytes) =
    (q ≡ p) × (of ≡ client) × (ranked ≡ number) × (bytes ≡ payload)
IsJobOf p (Ask control) done = done ≡ control_job p control
IsJobOf p asked other = ⊥

-- The turn got the House behind all events that the desk had seen. The desk has now seen all events
-- until the turn's end.
abbrev pub Sees : List Event → Option LoansView → List Event → Type 0
Sees before (Some loans) after = IsPrefix before loans.first.lent × (after ≡ loans.last.back)
Sees before None after = ⊥

-- The worker returned a turn with the request's job, and this is the result. It is a turn on the
-- House that opened with this group. The reader learnt what the turn published before its reply was
-- given to the client. Or the desk has a witness that the worker returned no such turn.
abbrev pub Works : GroupView → DeskView → Asked → Said → DeskView → Type 0
Works opened before asked said after =
    ((done : Job) × (answered : Reply Global) × (status : Option Status) × (settling : Published)
    × (loans : Option LoansView)
    × IsJobOf before.node asked done × IsOutcome opened true done answered status settling loans
    × LearnsTold (told_in settling) before.known after.known × (said ≡ told_of answered status)
    × Sees before.past loans after.past)
    ⊎ ((after.known ≡ before.known) × (after.past ≡ before.past) × (said ≡ gone)
    × (after.has_lost ≡ true))

-- ---- what a response says is true

-- The House opened with a group that shows some world. Before the request, these events had been
-- seen, and after the response this history has been seen. At a place of the history, behind all
-- that had been seen before, node p has stored this message as its own under this number.
pub record HasAccepted (opened : GroupView) (seen history : List Event) (p : ℕ) (m : Content)
    (seq : ℕ) : Type 0 where
  pub sound : IsSound opened
  pub past : List Event
  pub behind : IsPrefix seen past
  pub within : IsPrefix past history
  pub stored : (w : World) → Shows opened w → HasStored (after w past) p (name p seq) m

-- At a place of the history, behind all that had been seen before, node p had this status. The
-- group is what the events until then had made.
pub record WasSo (opened : GroupView) (seen history : List Event) (p : ℕ) (state : NodeState)
    (own logged : ℕ) : Type 0 where
  pub sound : IsSound opened
  pub past : List Event
  pub behind : IsPrefix seen past
  pub within : IsPrefix past history
  pub group : GroupView
  pub leads : IsLedTo opened past group
  pub status : Status
  pub tells : TellsStatus group p (Some status)
  pub told : HasStatus state own logged ≡ HasStatus
      (told_state status.state) status.own status.logged

-- At a place of the history, behind all that had been seen before, node p crashed.
pub record HasCrashed (opened : GroupView) (seen history : List Event) (p : ℕ) : Type 0 where
  pub sound : IsSound opened
  pub place : ℕ
  pub behind : length seen ≤ place
  pub crash : IsToldAt opened history place (CrashOf p) (WentDown p)

-- At a place of the history, behind all that had been seen before, node p restarted with some
-- image.
pub record HasRestarted (opened : GroupView) (seen history : List Event) (p : ℕ) : Type 0 where
  pub sound : IsSound opened
  pub place : ℕ
  pub behind : length seen ≤ place
  pub image : List Record
  pub restart : IsToldAt opened history place (RestartOf p image) (Up p)

-- The responses that a request to node p may get. A submit gets the number under which the node has
-- stored this very message. A status gets the node's status. A crash and a restart get that they
-- are done. Each of them may get a refusal.
abbrev pub Tells : GroupView → List Event → List Event → ℕ → Asked → Said → Type 0
Tells opened seen history p asked (Refused number detail) = Unit {0}
Tells opened seen history p (Submit client number payload) (Accepted seq) =
    HasAccepted opened seen history p
    (record { client = client; number = number; payload = payload }) seq
Tells opened seen history p (Ask control.Status) (HasStatus state own logged) =
    WasSo opened seen history p state own logged
Tells opened seen history p (Ask control.Crash) IsDone = HasCrashed opened seen history p
Tells opened seen history p (Ask control.Restart) IsDone = HasRestarted opened seen history p
Tells opened seen history p asked said = ⊥

-- A desk answers a read and a wait by the published lists alone, and all other requests by its
-- node's worker. A wait is answered as a read at a later moment: no other answer is possible, and
-- without an entry there the page is empty.
abbrev pub AnswersAt : GroupView → DeskView → Asked → Said → DeskView → Type 0
AnswersAt opened before (Read place max) said after =
    (after.node ≡ before.node) × Reads opened before place max said after
AnswersAt opened before (Wait place max millis) said after =
    (after.node ≡ before.node) × Reads opened before place max said after
AnswersAt opened before asked said after =
    (after.node ≡ before.node) × Works opened before asked said after
    × Tells opened before.past after.past before.node asked said
    × IsPrefix before.past after.past

-- What refused memory leaves of a desk: it has asked its worker nothing, and knows what it knew. In
-- a read or a wait it may have taken the lists already.
abbrev pub RefusedAt : GroupView → DeskView → Asked → DeskView → Type 0
RefusedAt opened before (Read place max) after = (after ≡ before)
    ⊎ ((after.node ≡ before.node) × Looks opened before after)
RefusedAt opened before (Wait place max millis) after = (after ≡ before)
    ⊎ ((after.node ≡ before.node) × Looks opened before after)
RefusedAt opened before asked after = after ≡ before
