-- What an operation does to what is published.
use Rattle.urb_show.specs.internal.History.{Issue}
use Rattle.urb_show.specs.Lists.{add_at}
use Rattle.urb_show.specs.declared.published_lists.Operation.{Operation}
use Rattle.urb_show.specs.declared.published_lists.ListsState.{ListsState}

-- what the two published copies have in common
abbrev pub state_of : Issue → ListsState
state_of p = record { lists = p.lists; mark = p.mark; events = p.events }

-- The entry is appended to its node's list. The history and the events are the operation's.
abbrev pub applied_to : ListsState → Operation → ListsState
applied_to s op = record {
  lists = add_at s.lists op.addition.place op.addition.entry;
  mark = op.mark;
  events = op.addition.events;
}
