-- The invariant of windows: at most one row for each sender, each well formed, with the space that
-- is promised.
use Rattle.std.specs.Prelude.{◌≡◌, ◌≤◌, length, Some}
use Rattle.std.specs.List.{AllByRecursion}
use Rattle.std.specs.Option.{ForSome}
use Rattle.urb_names.specs.declared.limits.TheConstants.{MAX_SENDERS}
use Rattle.urb_names.specs.LabelsAndContents.{Label}
use Rattle.urb_window.specs.internal.RowOperations.{IsRow}
use Rattle.urb_window.specs.internal.SenderRows.{row_at}
use Rattle.urb_window.specs.declared.windows.Windows.TheInside.{Inside}

-- the row of the name's sender has space for its number
pub record HasRow {T A : Type 0} (a : Inside T A) (x : Label) : Type 0 where
  pub senders : length a.rows.items ≡ MAX_SENDERS
  pub room : (row_at a.rows.items x.sender).reserved ≡ Some x.seq

-- the fields are at most one row for each sender, with the space that is promised
pub record IsKept {T A : Type 0} (a : Inside T A) : Type 0 where
  pub most : length a.rows.items ≤ MAX_SENDERS
  pub rows : AllByRecursion IsRow a.rows.items
  pub room : ForSome a.reserved (HasRow a)
