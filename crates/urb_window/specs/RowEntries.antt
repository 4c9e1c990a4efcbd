-- The rows of the senders, as one list of entries.
use Rattle.std.specs.Prelude.{ℕ, suc, List, [], ◌∷◌, ◌++◌, map}
use Rattle.urb_names.specs.LabelsAndContents.{Label}
use Rattle.urb_names.specs.Names.{name}
use Rattle.urb_window.specs.Row.{Row, pairs_of}

module _ {V : Type 0} where
  -- a sender's pairs of a number and a value, as entries
  abbrev pub named : ℕ → List (ℕ × V) → List (Label × V)
  named sender pairs = map (λ pair. (name sender pair.0, pair.1)) pairs

  -- the entries of this sender and the later ones
  abbrev pub entries_from : ℕ → List (Row V) → List (Label × V)
  entries_from sender [] = []
  entries_from sender (row ∷ rows) = named sender (pairs_of row) ++ entries_from (suc sender) rows
