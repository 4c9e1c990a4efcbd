-- The row of one sender. It is empty if there is no row of that sender.
use Rattle.std.specs.Prelude.{ℕ, ◌-◌, List, [], None, slice_index_or}
use Rattle.urb_window.specs.Row.{Row}

module _ {V : Type 0} where
  -- an empty row
  abbrev pub no_row : Row V
  no_row = record { low = []; above = []; reserved = None }

  -- the row of this sender
  abbrev pub row_at : List (Row V) → ℕ → Row V
  row_at rows sender = slice_index_or rows (sender - 1) no_row
