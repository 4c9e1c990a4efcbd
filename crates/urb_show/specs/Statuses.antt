-- What a house reports about a node at one moment.
use Rattle.std.specs.Prelude.{Option, Some, length, ℕ}
use Rattle.urb_group.specs.GroupCalls.{Answers}
use Rattle.urb_group.specs.GroupViews.{GroupView}
use Rattle.urb_group.specs.ReportedStates.{state_of}
use Rattle.urb_world.specs.World.{World, stored}
use Rattle.urb_stable.specs.DeliveredLogs.{log}
use Rattle.urb_show.specs.declared.status.Status.{Status}

-- the node's state, how many messages it has broadcast, and how many names it has delivered
abbrev pub status_of : World → ℕ → Status
status_of w p = record {
  state = state_of (w.node p).state;
  own =
      length (w.node p).broadcast;
  logged = length (log (stored w p));
}

-- The status of node p, in every world that the group shows. `None` if there is no such node.
abbrev pub TellsStatus : GroupView → ℕ → Option Status → Type 0
TellsStatus group p result = Answers (λ w. Some (status_of w p)) group p result
