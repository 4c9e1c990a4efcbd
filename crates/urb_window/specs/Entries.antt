-- Entries, each a name with its value, in order of name.
use Rattle.std.specs.Prelude.{ℕ, Bool, ◌&&◌, ◌==◌, nat_le, nat_lt, if◌then◌else◌, List, [], ◌∷◌}
use Rattle.std.specs.Prelude.{length, map, filter, count_by, Option, Some, None}
use Rattle.urb_names.specs.LabelsAndContents.{Label}
use Rattle.urb_names.specs.Names.{name_lt, same_name}
use Rattle.urb_names.specs.Release.{beginning}

module _ {V : Type 0} where
  -- entries are ordered by their names
  abbrev pub entry_lt : Label × V → Label × V → Bool
  entry_lt entry later = name_lt entry.0 later.0

  -- the names of entries
  abbrev pub names_of : List (Label × V) → List Label
  names_of entries = map (λ entry. entry.0) entries

  -- the value of the first entry with this name
  abbrev pub value_of : List (Label × V) → Label → Option V
  value_of [] x = None
  value_of (entry ∷ entries) x = if same_name entry.0 x then Some entry.1 else value_of entries x

  -- the entries after this name's value is replaced
  abbrev pub with_value : List (Label × V) → Label → V → List (Label × V)
  with_value entries x v =
      map (λ entry. if same_name entry.0 x then (entry.0, v) else entry) entries

  -- how far the sender's numbers go from 1 on without a gap
  abbrev pub low_of : ℕ → List (Label × V) → ℕ
  low_of sender entries = length (beginning sender (names_of entries))

  -- the values of the sender's numbers up to the first gap, in order
  abbrev pub window_of : ℕ → List (Label × V) → List V
  window_of sender entries =
      map (λ entry. entry.1) (filter
      (λ entry. (entry.0.sender == sender) && nat_le entry.0.seq (low_of sender entries)) entries)

  -- how many of the sender's numbers are above the first gap
  abbrev pub above_of : ℕ → List (Label × V) → ℕ
  above_of sender entries =
      count_by (λ entry. (entry.0.sender == sender) && nat_lt (low_of sender entries) entry.0.seq)
      entries
