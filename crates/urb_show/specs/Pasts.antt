-- The past of a house: its events, and the group that they make.
use Rattle.std.specs.Prelude.{IfOk, List, Result, Some, length, slice_get, take, ℕ, ◌≡◌}
use Rattle.urb_group.specs.GroupViews.{GroupView, Shows}
use Rattle.urb_world.specs.RecoveryPlans.{after}
use Rattle.urb_world.specs.Step.{Event, IsReached, step}
use Rattle.urb_world.specs.World.{World}
use Rattle.urb_group.specs.declared.taken.Taken.TheVariants as taken
use Rattle.urb_group.specs.declared.taken.Taken.{Taken}
use Rattle.urb_node.specs.Replies.{Drafted, Reply, Same}
use Rattle.urb_stable.specs.Entries.{name_of}
use Rattle.urb_show.specs.Houses.{HouseView}

-- From each world that the group showed at the opening, the past leads to a world that the group
-- shows now.
abbrev pub IsLedTo : GroupView → List Event → GroupView → Type 0
IsLedTo opened past group = (w : World) → Shows opened w → Shows group (after w past)

-- If a run leads to the world at the opening, a run leads to the present world.
abbrev pub IsReachedBy : GroupView → List Event → Type 0
IsReachedBy opened past =
    (w : World) → Shows opened w → IsReached w → IsReached (after w past)

-- This event is at this place of a history; places count from 0. Take any world that the group
-- showed at the opening. The events before this one lead from it to a world, and there this event
-- gets this reply.
pub record IsToldAt (opened : GroupView) (history : List Event) (place : ℕ) (event : Event)
    (reply : Reply) : Type 0 where
  pub stands : slice_get history place ≡ Some event
  pub told : (w : World) → Shows opened w → (step (after w (take place history)) event).0 ≡ reply

-- the reply to a submit or an arrival that gave this
abbrev pub reply_to : {A : Type 0} → Taken A → Reply
reply_to (taken.Same answer) = Same answer
reply_to (taken.Store draft) = Drafted (name_of draft.entry) draft.pos

-- If a call isn't refused, its event is the next one behind the past, and gets the reply that the
-- call's result says.
abbrev pub IsRecorded : {T E : Type 0} → GroupView → Event → (T → Reply) → Result T E → HouseView
    → HouseView → Type 0
IsRecorded opened event reply result before after =
    IfOk result (λ done. IsToldAt opened after.past (length before.past) event (reply done))
