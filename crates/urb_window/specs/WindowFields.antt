-- What contracts see of the fields of windows.
use Rattle.urb_window.specs.RowEntries.{entries_from}
use Rattle.urb_window.specs.WindowSet.{WindowSet}
use Rattle.urb_window.specs.declared.windows.Windows.TheInside.{Inside}

-- what contracts see of the fields
abbrev pub view_of : {T A : Type 0} → Inside T A → WindowSet T
view_of a = record { entries = entries_from 1 a.rows.items; reserved = a.reserved }
