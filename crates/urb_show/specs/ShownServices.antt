-- What a user sees of the algorithm's worlds, events and runs.
use Rattle.std.specs.Prelude.{Err, IsTrue, List, None, Ok, Option, Some, [], false, if◌then◌else◌}
use Rattle.std.specs.Prelude.{ℕ, ◌∷◌, ◌≡◌}
use Rattle.urb_world.specs.EventEffects.{event_node}
use Rattle.urb_group.specs.ReportedStates.{state_of}
use Rattle.urb_world.specs.Step.{Arrive, Commit, Crash, Event, Fail, Restart, Submit, Tick, step}
use Rattle.urb_world.specs.World.{World}
use Rattle.urb_names.specs.Nodes.{is_node}
use Rattle.urb_names.specs.Pairs.{own}
use Rattle.urb_node.specs.Part.{Node as Part}
use Rattle.urb_node.specs.Replies.{Drafted, Refused, Reply, Same, Stored, WentDown}
use Rattle.urb_node.specs.Steps.{doubt}
use Rattle.urb_node.specs.declared.answer.Answer.TheVariants as answer
use Rattle.urb_show.specs.Answers.{Answer}
use Rattle.urb_show.specs.Service.{Act, Node, Service, Step}
use Rattle.urb_show.specs.Service as seen
use Rattle.urb_names.specs.declared.refusal.Refusal.{Refusal}
use Rattle.urb_stable.specs.DeliveredLogs.{log}
use Rattle.urb_stable.specs.Entries.{Entry}
use Rattle.urb_stable.specs.Records.{pend}

-- the record that a node writes, or that is doubtful, if there is one
abbrev pub listed : Option Entry → List Entry
listed None = []
listed (Some entry) = entry ∷ []

-- What a user sees of node p: its own messages, its log, and its state. A submit is unanswered
-- if the record that it writes, or that is doubtful, holds a message of its own.
abbrev pub shown_node : ℕ → Part → Node
shown_node p node =
    record {
      list = node.broadcast;
      log = log node.records;
      state = state_of node.state;
      asked = own p (pend (listed (doubt node.state)));
    }

-- what a user sees of a world
abbrev pub shown : World → Service
shown w = record { size = w.size; node = λ p. shown_node p (w.node p) }

-- the answer to a submit, by the reply of the algorithm
abbrev pub submit_answer : Reply → Answer
submit_answer (Same (answer.Accepted x)) = Some (Ok x.seq)
submit_answer (Refused why) = Some (Err why)
submit_answer _ = None

-- the refusal in a reply, if it is one
abbrev pub refusal_in : Reply → Option Refusal
refusal_in (Refused why) = Some why
refusal_in _ = None

-- what a node does when its record is stored, by the reply
abbrev pub finish_of : Reply → Act
finish_of (Stored done) = seen.Finish (if done.accepted then done.name.seq ∷ [] else [])
finish_of _ = seen.Rest

-- what a node does when its store failed, by the reply
abbrev pub fail_of : Reply → Act
fail_of (WentDown p) = seen.Fail
fail_of _ = seen.Rest

-- what a node does when bytes come, by the reply: it may begin to write
abbrev pub write_of : Reply → Act
write_of (Drafted x position) = seen.Write
write_of _ = seen.Rest

-- what a user sees of an event, by its reply
abbrev pub act_of : Event → Reply → Act
act_of (Submit p m) reply = seen.Submit m (submit_answer reply)
act_of (Arrive p bytes) reply = write_of reply
act_of (Tick p) reply = seen.Rest
act_of (Commit p position entry) reply = finish_of reply
act_of (Fail p) reply = fail_of reply
act_of (Crash p) reply = seen.Crash (refusal_in reply)
act_of (Restart p image) reply = seen.Restart (refusal_in reply)

-- a user sees this event as a step of the service, with the same answer
abbrev pub ShowsStep : World → Event → Type 0
ShowsStep w event =
    Step (shown w) (event_node event) (act_of event (step w event).0) (shown (step w event).1)

-- The event is at a node, and a user sees it as a step. Or there is no such node: the event is
-- refused, and nothing changes.
pub record ShowsEvent (w : World) (event : Event) : Type 0 where
  pub at_node : IsTrue (is_node w.size.n (event_node event)) → ShowsStep w event
  pub at_none : is_node w.size.n (event_node event) ≡ false
      → ((why : Refusal) × ((step w event).0 ≡ Refused why)) × ((step w event).1 ≡ w)

-- this holds for each of these events, one after the other
abbrev pub ShowsRun : World → List Event → Type 0
ShowsRun w [] = Unit {0}
ShowsRun w (event ∷ events) = ShowsEvent w event × ShowsRun (step w event).1 events
