-- What each call of a group does, for every world that the group shows before it.
use Rattle.std.specs.Prelude.{◌≡◌, ◌&&◌, IsTrue, List, None, Option, Some, Result, Ok, Err, Bool}
use Rattle.std.specs.Prelude.{if◌then◌else◌, is_some, length, suc, ℕ}
use Rattle.urb_names.specs.CarriedPackets.{Carried}
use Rattle.urb_names.specs.LabelsAndContents.{Content, Label, Limits}
use Rattle.urb_names.specs.Nodes.{is_node}
use Rattle.urb_names.specs.Pairs.{message_of}
use Rattle.urb_names.specs.declared.refusal.Refusal.{Refusal}
use Rattle.urb_names.specs.declared.refusal.Refusal.TheVariants as refusal
use Rattle.urb_stable.specs.Entries.{Entry, name_of}
use Rattle.urb_stable.specs.Fitting.{Fits, first_misfit}
use Rattle.urb_stable.specs.DeliveredLogs.{log}
use Rattle.urb_stable.specs.PlacedRecords.{Placed}
use Rattle.urb_stable.specs.Records.{pend}
use Rattle.urb_node.specs.CallEffects.{IsRefusedAs}
use Rattle.urb_node.specs.Part.{Storing}
use Rattle.urb_node.specs.Replies.{Done, Drafted, Reply, Same, Sent, Stored, Up, WentDown}
use Rattle.urb_node.specs.Replies.{packets_in}
use Rattle.urb_group.specs.GroupViews.{GroupView, Shows, view_of}
use Rattle.urb_world.specs.Step.{Commit, Event, step}
use Rattle.urb_world.specs.TruthfulPackets.{AreTruthful}
use Rattle.urb_world.specs.World.{World, image_of, opened, stored, truthful}
use Rattle.urb_group.specs.declared.taken.Taken.{Taken}
use Rattle.urb_group.specs.declared.taken.Taken.TheVariants as taken
use Rattle.urb_node.specs.declared.cause.Cause.{Cause}

-- The event happened in this world, and its reply was given. The group shows the world after it.
-- What was truthful is still truthful after it, and each packet of the reply is truthful.
pub record Happens (event : Event) (IsTold : Reply → Type 0) (new : GroupView)
    (w : World) : Type 0 where
  pub told : IsTold (step w event).0
  pub shows : Shows new (step w event).1
  pub truth : (packet : Carried) → IsTrue (truthful w packet)
      → IsTrue (truthful (step w event).1 packet)
  pub sent : AreTruthful (step w event).1 (packets_in (step w event).0)

-- the event happened in every world that the group showed
abbrev pub Steps : GroupView → Event → (Reply → Type 0) → GroupView → Type 0
Steps old event IsTold new = (w : World) → Shows old w → Happens event IsTold new w

-- The event is refused in every world that the group shows, or memory was refused to a call that
-- may need it. The group stays as it was.
abbrev pub IsRefused : GroupView → Event → Refusal → GroupView → Type 0
IsRefused old event refusal new =
    ((w : World) → Shows old w → IsRefusedAs (step w event).0 refusal) × (new ≡ old)

-- the group's node holds this draft
pub record HoldsDraft (group : GroupView) (draft : Placed) : Type 0 where
  pub cause : Option Cause
  pub state : (view_of group draft.node).state ≡ Storing draft.entry cause
  pub position : draft.pos ≡ suc (view_of group draft.node).count

-- A submit or an arrival at p, by its event. It gives an answer, or a draft that the node then
-- holds, or a refusal.
abbrev pub Takes : {A : Type 0} → GroupView → ℕ → Event → Result (Taken A) Refusal → GroupView
    → Type 0
Takes old p event (Ok (taken.Same answer)) new = Steps old event (λ reply. reply ≡ Same answer) new
Takes old p event (Ok (taken.Store draft)) new =
    Steps old event (λ reply. reply ≡ Drafted (name_of draft.entry) draft.pos) new
    × (draft.node ≡ p) × HoldsDraft new draft
Takes old p event (Err refusal) new = IsRefused old event refusal new

-- a receipt: taken, or returned
abbrev pub Commits : GroupView → Placed → Result Done (Placed × Refusal) → GroupView → Type 0
Commits old receipt (Ok done) new =
    Steps old (Commit receipt.node receipt.pos receipt.entry) (λ reply. reply ≡ Stored done) new
Commits old receipt (Err e) new =
    IsRefused old (Commit receipt.node receipt.pos receipt.entry) e.1 new × (e.0 ≡ receipt)

-- a tick, by its event: it sends packets, or is refused
abbrev pub Ticks : GroupView → Event → Result (List Carried) Refusal → GroupView → Type 0
Ticks old event (Ok packets) new = Steps old event (λ reply. reply ≡ Sent packets) new
Ticks old event (Err refusal) new = IsRefused old event refusal new

-- a failed store or a crash of p, by its event: the node goes down, or the event is refused
abbrev pub GoesDown : GroupView → ℕ → Event → Result (Unit {0}) Refusal → GroupView → Type 0
GoesDown old p event (Ok done) new = Steps old event (λ reply. reply ≡ WentDown p) new
GoesDown old p event (Err refusal) new = IsRefused old event refusal new

-- a restart of p, by its event: the node comes up, or the event is refused
abbrev pub ComesUp : GroupView → ℕ → Event → Result (Unit {0}) Refusal → GroupView → Type 0
ComesUp old p event (Ok done) new = Steps old event (λ reply. reply ≡ Up p) new
ComesUp old p event (Err refusal) new = IsRefused old event refusal new

-- Images are opened. Either they fit together, and the group shows the world that is opened from
-- them. Or the refusal says their first misfit. Or memory was refused.
abbrev pub Opens : Limits → List (List Entry) → Result GroupView Refusal → Type 0
Opens size images (Ok group) =
    Fits size (image_of images) × Shows group (opened size (image_of images))
Opens size images (Err refusal.NoMemory) = Unit {0}
Opens size images (Err (refusal.Inconsistent rule node name)) =
    first_misfit size (image_of images) ≡ Some (record { rule = rule; node = node; name = name })
Opens size images (Err r) = ⊥

-- ---- questions: None if there is no such node, otherwise the world's answer

-- the answer for node p of every world that the group shows
abbrev pub Answers : {T : Type 0} → (World → Option T) → GroupView → ℕ → Option T → Type 0
Answers of group p result =
    (w : World) → Shows group w → result ≡ (if is_node w.size.n p then of w else None)

-- the log of node p
abbrev pub TellsLog : GroupView → ℕ → Option (List Label) → Type 0
TellsLog group p result = Answers (λ w. Some (log (stored w p))) group p result

-- the message that node p has stored under this name, if it has one
abbrev pub FindsMessage : GroupView → ℕ → Label → Option Content → Type 0
FindsMessage group p x result = Answers (λ w. message_of (pend (stored w p)) x) group p result

-- how many messages node p has broadcast
abbrev pub CountsOwn : GroupView → ℕ → Option ℕ → Type 0
CountsOwn group p result = Answers (λ w. Some (length (w.node p).broadcast)) group p result

-- whether node p has stored a message under this name
abbrev pub Holds : GroupView → ℕ → Label → Bool → Type 0
Holds group p x result =
    (w : World) → Shows group w → result
    ≡ (is_node w.size.n p && is_some (message_of (pend (stored w p)) x))
