-- The mask that a list of entries has for a name.
use Rattle.std.specs.Prelude.{ℕ, List, unwrap_or}
use Rattle.urb_names.specs.LabelsAndContents.{Label}
use Rattle.urb_window.specs.Entries.{value_of}

-- the mask that the entries have for a name, or 0 if no entry has the name
abbrev pub mask_of : List (Label × ℕ) → Label → ℕ
mask_of entries x = unwrap_or (value_of entries x) 0
