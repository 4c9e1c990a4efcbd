-- The names of the two parts that hold certified names: those without a gap, and those above it.
use Rattle.std.specs.Prelude.{ℕ, suc, ◌+◌, List, [], ◌∷◌, ◌++◌}
use Rattle.urb_names.specs.LabelsAndContents.{Label}
use Rattle.urb_names.specs.Names.{names}

-- for each sender from the first on, its names 1 to k; the list has the k of each sender
abbrev pub rows_from : ℕ → List ℕ → List Label
rows_from first [] = []
rows_from first (k ∷ ks) = names first k ++ rows_from (suc first) ks

-- all names, in no particular order
abbrev pub all_names : List ℕ → List Label → List Label
all_names low above = above ++ rows_from 1 low
