-- An event of a past. This is for proofs.
use Rattle.std.specs.Prelude.{List, slice_index_or, ℕ}
use Rattle.urb_world.specs.Step.{Crash, Event}

-- the event at this place, which counts from 0
abbrev pub event_at : List Event → ℕ → Event
event_at events place = slice_index_or events place (Crash 0)
