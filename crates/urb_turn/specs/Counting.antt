-- The number of events that a House has counted, and what each worker keeps of its turns.
use Rattle.std.specs.Prelude.{Err, List, Ok, Option, Result, [], suc, zero, ℕ, ◌+◌, ◌∷◌}
use Rattle.urb_world.specs.Step.{Event}
use Rattle.urb_show.specs.Houses.{next_count}

-- the number of events of a call: one, if it was not refused
abbrev pub count_of : {T E : Type 0} → Result T E → ℕ
count_of (Ok done) = 1
count_of (Err refusal) = 0

-- What a worker keeps: the number of events in its turns, and the end of its last loan of the House.
-- The end is all events until the worker gave the House back. It may not be known.
pub record TallyView : Type 0 where
  pub events : ℕ
  pub last : Option (List Event)

-- the number of events in the turns of all these workers
abbrev pub events_in : List TallyView → ℕ
events_in [] = 0
events_in (tally ∷ tallies) = tally.events + events_in tallies

-- the count after a number of further events
abbrev pub count_after : ℕ → ℕ → ℕ
count_after zero events = events
count_after (suc more) events = next_count (count_after more events)
