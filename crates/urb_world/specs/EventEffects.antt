-- Each event happens at one node, and most events store no record.
use Rattle.std.specs.Prelude.{ℕ}
use Rattle.urb_world.specs.Step.{Arrive, Commit, Crash, Event, Fail, Restart, Submit, Tick}

-- the node at which an event happens
abbrev pub event_node : Event → ℕ
event_node (Submit p m) = p
event_node (Arrive p bytes) = p
event_node (Tick p) = p
event_node (Commit p position entry) = p
event_node (Fail p) = p
event_node (Crash p) = p
event_node (Restart p image) = p

-- the event stores no record: any event but a receipt and a restart
abbrev pub StoresNothing : Event → Type 0
StoresNothing (Submit p m) = Unit {0}
StoresNothing (Arrive p bytes) = Unit {0}
StoresNothing (Tick p) = Unit {0}
StoresNothing (Commit p position entry) = ⊥
StoresNothing (Fail p) = Unit {0}
StoresNothing (Crash p) = Unit {0}
StoresNothing (Restart p image) = ⊥
