-- The invariant of a row's vectors: their order, and space for the reserved number.
use Rattle.std.specs.Prelude.{◌≡◌, ◌+◌, ◌<◌, ◌≤◌, ℕ, length}
use Rattle.std.specs.Vec.{vec_len, vec_capacity}
use Rattle.std.specs.VecDeque.{deque_len, deque_capacity}
use Rattle.std.specs.Option.{ForSome}
use Rattle.urb_window.specs.Row.{Row}
use Rattle.urb_window.specs.internal.RowOperations.{IsRow}
use Rattle.urb_window.specs.declared.window.Window.TheInside.{Inside}

-- what contracts see of the fields
abbrev pub row_of : {T A : Type 0} → Inside T A → Row T
row_of a = record { low = a.low.items; above = a.above.items; reserved = a.reserved }

-- There is space for this number. If it is the next one, the lower part has space for it and for
-- all that may follow it. Otherwise the upper part has space for it.
pub record HasRoom {T A : Type 0} (a : Inside T A) (n : ℕ) : Type 0 where
  pub next : n ≡ length a.low.items + 1 → vec_len a.low + deque_len a.above + 1 ≤ vec_capacity a.low
  pub other : (n ≡ length a.low.items + 1 → ⊥) → deque_len a.above < deque_capacity a.above

-- the fields are a row, with the space that is promised
pub record IsRoomy {T A : Type 0} (a : Inside T A) : Type 0 where
  pub row : IsRow (row_of a)
  pub room : ForSome a.reserved (HasRoom a)
