-- The two parts of a list of certified names: which names each part has, and what a new name changes.
use Rattle.std.specs.Prelude.{◌≡◌, ℕ, ◌+◌, ◌-◌, ◌<◌, ◌||◌, ◌&&◌, ◌==◌, not, nat_le, Bool, true}
use Rattle.std.specs.Prelude.{IsTrue, List, length, slice_index_or}
use Rattle.urb_names.specs.declared.limits.TheConstants.{MAX_SENDERS}
use Rattle.urb_names.specs.LabelsAndContents.{Label, IsLabel}
use Rattle.urb_names.specs.Names.{has_name, name_lt, same_name}
use Rattle.urb_names.specs.RisingLists.{is_rising}
use Rattle.urb_certified.specs.Parts.{all_names}

-- the number up to which the sender's names have no gap
abbrev pub low_of : List ℕ → ℕ → ℕ
low_of low sender = slice_index_or low (sender - 1) 0

-- there is a number for each possible sender; the names above are in order, and each is separated
-- from the lower part by a gap
pub record IsParts (low : List ℕ) (above : List Label) : Type 0 where
  pub senders : length low ≡ MAX_SENDERS
  pub order : IsTrue (is_rising name_lt above)
  pub gap : (x : Label) → has_name above x ≡ true → IsLabel x × (low_of low x.sender + 1 < x.seq)

-- which names stay above once a sender's names have no gap up to number end
abbrev pub is_left : ℕ → ℕ → Label → Bool
is_left sender end y = not ((y.sender == sender) && nat_le y.seq end)

-- the two parts after one more name was certified
pub record IsJoined (low : List ℕ) (above : List Label) (x : Label) (new_low : List ℕ)
    (new_above : List Label) : Type 0 where
  pub parts : IsParts new_low new_above
  pub has : (y : Label) → has_name (all_names new_low new_above) y
      ≡ (same_name x y || has_name (all_names low above) y)
