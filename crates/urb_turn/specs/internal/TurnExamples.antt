-- Words for the worked examples of workers: stores in memory, and houses of four nodes.
use Rattle.std.specs.Prelude.{List, None, Some, [], length, true, ℕ, ◌∷◌}
use Rattle.std.specs.declared.alloc.Global.{Global}
use Rattle.urb_group.specs.GroupViews.{GroupView}
use Rattle.urb_world.specs.MemoryStores.{in_memory}
use Rattle.urb_world.specs.Step.{Commit, Event, Restart, Submit, Tick}
use Rattle.urb_world.specs.World.{World, image_of, opened, started}
use Rattle.urb_group.specs.declared.reply.Reply.{Reply}
use Rattle.urb_world.specs.internal.Examples.{flagged, limits, pending}
use Rattle.urb_world.specs.internal.Scripts.{message}
use Rattle.urb_show.specs.Houses.{HouseView}
use Rattle.urb_show.specs.internal.ReaderExamples.{new_four, shows_none}
use Rattle.urb_show.specs.declared.status.Status.{Status}
use Rattle.urb_node.specs.Replies.{Done}
use Rattle.urb_names.specs.Names.{name}
use Rattle.urb_stable.specs.Doubts.{Doubted}
use Rattle.urb_stable.specs.Entries.{Entry}
use Rattle.urb_stable.specs.MemoryStores.{Memory, empty_memory}
use Rattle.urb_stable.specs.PlacedRecords.{Placed}
use Rattle.urb_stable.specs.declared.stable.Stable.{Ghosts}
use Rattle.urb_stable.specs.declared.stable.StoreFault.TheVariants as fault
use Rattle.urb_turn.specs.Loans.{LoansView}
use Rattle.urb_turn.specs.Settlings.{NothingNew}
use Rattle.urb_turn.specs.Views.{FinishedView}
use Rattle.urb_turn.specs.declared.job.Job.{Job}
use Rattle.urb_node.specs.NodeViews.{no_view}
use Rattle.urb_node.specs.Part.{Down, Storing}
use Rattle.urb_group.specs.declared.state.State.TheVariants as state

-- the ghost values of a store in memory
abbrev pub memory : Ghosts Memory (Unit {0})
memory = in_memory (Unit {0})

-- the same, of a store that isn't honest
abbrev pub lying : Ghosts Memory (Unit {0})
lying = record (in_memory (Unit {0})) { is_honest = λ s. ⊥ }

-- the same, of a store that has given out the first records and holds the others ahead
abbrev pub ahead_of : (given others : List Entry) → Ghosts Memory (Unit {0})
ahead_of given others = record (in_memory (Unit {0})) {
  base = λ s. given;
  ahead = λ s. others;
  can_hold = λ s records. true;
}

-- a store that holds a pair
abbrev pub holding : Memory
holding = record empty_memory { certain = pending 1 1 ∷ [] }

-- an empty store that may hold a pair
abbrev pub in_two_minds : Memory
in_two_minds = record empty_memory { doubt = Some (pending 1 1) }

-- an empty store that needs a retrieve
abbrev pub doubtful : Memory
doubtful = record empty_memory { doubtful = true }

-- an empty store that has failed once
abbrev pub failed_once : Memory
failed_once = record empty_memory { failures = 1 }

-- a new world of four nodes
abbrev pub four : World
four = started (limits 4 10)

-- a world of four nodes, in which node 1 has stored a pair
abbrev pub one_has_stored : World
one_has_stored = opened (limits 4 10) (image_of ((pending 1 1 ∷ []) ∷ []))

-- a house of this group that has published nothing, after these events
abbrev pub house_of : GroupView → List Event → HouseView
house_of group past = record {
  group = group;
  published = [];
  prepared = [];
  events = length past;
  past = past;
}

-- a house of a new group of four nodes, after these events
abbrev pub house_of_four : List Event → HouseView
house_of_four past = house_of new_four past

-- the same, of a group that shows no world
abbrev pub house_of_none : List Event → HouseView
house_of_none past = house_of shows_none past

-- the first record of node 1 at its position, as a draft or a receipt
abbrev pub first_of_one : Placed
first_of_one = record { node = 1; pos = 1; entry = pending 1 1 }

-- the same record, at the first position of node 2
abbrev pub first_of_two : Placed
first_of_two = record { node = 2; pos = 1; entry = pending 1 1 }

-- what the receipt of it did, if it released no name
abbrev pub nothing_released : Done
nothing_released = record { accepted = true; name = name 1 1; sent = []; released = 0 }

-- node 1, whose disk failed
abbrev pub failed_disk : Doubted
failed_disk = record { node = 1; fault = fault.Device }

-- the status of a new node
abbrev pub new_status : Status
new_status = record { state = state.Ready; own = 0; logged = 0 }

-- the result of a job that ran, with this reply and this number of events, and nothing else
abbrev pub ended : Job → Reply Global → ℕ → FinishedView
ended job said events = record {
  job = job;
  reply = said;
  status = None;
  settling = NothingNew;
  ran = true;
  events = events;
  loans = None;
}

-- two loans of a House whose past is empty
abbrev pub at_the_opening : LoansView
at_the_opening =
    record { first = record { lent = []; back = [] }; last = record { lent = []; back = [] } }

-- what a receipt of node 1's first record does in a new group of four
abbrev pub stored_by_four : Done
stored_by_four = record nothing_released {
  sent =
      flagged 0 1 2 1 1 (message 7 1 "") ∷ flagged 0 1 3 1 1 (message 7 1 "")
      ∷ flagged 0 1 4 1 1 (message 7 1 "") ∷ [];
}

-- The loans of a turn that stores node 1's first record. Between them node 2 ticks.
abbrev pub around_a_tick : LoansView
around_a_tick = record {
  first = record { lent = []; back = Submit 1 (message 7 1 "") ∷ [] };
  last = record {
    lent = Submit 1 (message 7 1 "") ∷ Tick 2 ∷ [];
    back = Submit 1 (message 7 1 "") ∷ Tick 2 ∷ Commit 1 1 (pending 1 1) ∷ [];
  };
}

-- a new group of four nodes, with what each holds
abbrev pub four_views : GroupView
four_views =
    record { size = limits 4 10; nodes = no_view ∷ no_view ∷ no_view ∷ no_view ∷ [] }

-- a group that shows no world, although its node 1 holds its first record
abbrev pub drafts_in_none : GroupView
drafts_in_none = record {
  size = limits 4 10;
  nodes = record no_view { log = name 1 1 ∷ []; state = Storing (pending 1 1) None } ∷ [];
}

-- a group of four nodes whose node 1 has stored its first message
abbrev pub stored_four : GroupView
stored_four = record {
  size = limits 4 10;
  nodes = record no_view {
    pairs = (name 1 1, message 7 1 "") ∷ [];
    count = 1;
    acks = (name 1 1, 1) ∷ [];
  } ∷ [];
}

-- a group of four nodes whose node 1 is down, and may have stored its first record
abbrev pub in_doubt : GroupView
in_doubt = record {
  size = limits 4 10;
  nodes = record no_view { state = Down (Some (pending 1 1)) } ∷ [];
}

-- The loans of a turn of no events. Between them node 1 restarts with an empty image.
abbrev pub around_a_restart : LoansView
around_a_restart = record {
  first = record { lent = []; back = [] };
  last = record { lent = Restart 1 [] ∷ []; back = Restart 1 [] ∷ [] };
}

-- a group of four nodes that holds a fifth one, which is down
abbrev pub with_a_fifth : GroupView
with_a_fifth = record {
  size = limits 4 10;
  nodes =
      no_view ∷ no_view ∷ no_view ∷ no_view ∷ record no_view { state = Down None } ∷ [];
}

-- two submits of a client at node 1
abbrev pub two_submits : List Event
two_submits = Submit 1 (message 7 1 "") ∷ Submit 1 (message 7 2 "") ∷ []

-- the ghost values of a store in memory that holds ahead what it has, has given out nothing, and can
-- hold more
abbrev pub all_ahead : Ghosts Memory (Unit {0})
all_ahead = record (in_memory (Unit {0})) {
  certain = λ s. [];
  place = λ s. 1;
  leaves_only = λ s P. P [];
  ahead = λ s. s.certain;
  can_hold = λ s records. true;
}

-- a store that has the records of two submits
abbrev pub holding_both : Memory
holding_both = record empty_memory { certain = pending 1 1 ∷ pending 1 2 ∷ [] }

-- a store that has the records of the first and a third submit
abbrev pub holding_others : Memory
holding_others = record empty_memory { certain = pending 1 1 ∷ pending 1 3 ∷ [] }
